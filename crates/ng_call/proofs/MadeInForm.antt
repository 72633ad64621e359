-- A script and captures that are made are in form: what is written is read back.
use Rattle.std.proofs.Common.{ℕ, zero, suc, ◌+◌, ◌≤◌, [], map, refl, ap, arith}
use Rattle.std.specs.List.{AllByRecursion, range_with_len}
use Rattle.ng_call.proofs.Running.{every_all}
use Rattle.ng_pcap.specs.Writing.{IsWritable}
use Rattle.ng_pcap.proofs.Written.{read_back}
use Rattle.ngctl_script.specs.make.Made.{made_captures, made_packet, made_packets}
use Rattle.ng_call.specs.MadeInForm.{IsCapture, MadeIsInForm}
use Rattle.ng_call.specs.Steps.{fault_in}

writable_from : (n a m : ℕ) → a + m ≤ 100000 → AllByRecursion IsWritable (map (made_packet n) (range_with_len a m))
writable_from n a zero few = tt
writable_from n a (suc m) few = (record { in_seconds = omega (arith, few); in_length = omega arith }, writable_from n (a + 1) m (omega (arith, few)))

first_read : (n : ℕ) → n ≤ 100000 → AllByRecursion IsWritable (made_packets n)
first_read n few = writable_from n 0 n (omega (arith, few))

pub made_in_form : MadeIsInForm
made_in_form = record {
  script = refl;
  captures = λ n few.
      every_all IsCapture (made_captures n)
      (ap fault_in (read_back (made_packets n) (first_read n few)), (ap fault_in (read_back [] tt), (ap fault_in (read_back [] tt), tt)));
}
