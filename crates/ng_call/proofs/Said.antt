-- What is known of words that are in form.
use Rattle.std.proofs.Common.{arith, ◌≡◌, ℕ, ◌≤◌, Bool, true, false, not, ◌&&◌, nat_le, if◌then◌else◌, List, [], ◌∷◌, length, map, codes, Option, Some, None, is_none, refl, subst}
use Rattle.std.proofs.lemmas.Bool.{leb-true}
use Rattle.std.specs.Str.Parse.{digits_value}
use Rattle.ng_base.specs.declared.name.NameFault.{NameFault}
use Rattle.ng_base.specs.Name.{IsName, is_name, name_fault}
use Rattle.ng_decimal.specs.Decimal.{number_from, is_number}
use Rattle.ng_machine.specs.Words.{Every}
use Rattle.ng_args.specs.Lists.{are_apart}
use Rattle.ng_base.specs.Names.{are_different}
use Rattle.ng_args.specs.Names.{is_node_name, node_name, file_name, begins_with}
use Rattle.ng_args.specs.Options.{Cut, cut_of, value_of}
use Rattle.ng_args.specs.Ports.{split_at, equals, files_of, port_if, port_parts, port_of, with_port, ports_of}
use Rattle.ng_args.specs.Run.{unless_given, with_ports, from_files, made_of, source_by, settle, said, ports_from, written_files, read_files, are_words, if_words, words_by, words_of}
use Rattle.ng_args.specs.Together.{are_ports, are_files}
use Rattle.ng_args.specs.declared.port.PortForm.TheVariants.{InAndOut}
use Rattle.ng_args.specs.declared.port.PortWord.{PortWord}
use Rattle.ng_args.specs.declared.words.Source.{Source}
use Rattle.ng_args.specs.declared.words.Source.TheVariants.{FromFiles, Made}
use Rattle.ng_args.specs.declared.words.Words.{Words}
use Rattle.ng_call.specs.Said.{HasName, IsInRange, InForm}

pub and_left : (a b : Bool) → (a && b) ≡ true → a ≡ true
and_left true b e = refl
and_left false b e = absurd (cc e)

pub and_right : (a b : Bool) → (a && b) ≡ true → b ≡ true
and_right true b e = e
and_right false b e = absurd (cc e)

-- The parts of words

if_that : (test : Bool) (v w : Words) → (if test then Some v else None) ≡ Some w → (test ≡ true) × (v ≡ w)
if_that true v w e = (refl, (let same : v ≡ w = cc e in same))
if_that false v w e = absurd (cc e)

if_said : (x : Option Words) (w : Words) → if_words x ≡ Some w → (x ≡ Some w) × (are_words w ≡ true)
if_said None w e = absurd (cc e)
if_said (Some v) w e =
    let both = if_that (are_words v) v w e in
    let one : Some v ≡ Some w = cc both.1 in
    (one, subst (λ (u : Words). are_words u ≡ true) both.1 both.0)

pub cut_said : (x : Option Cut) (w : Words) → words_by x ≡ Some w → (cut : Cut) × (said cut ≡ Some w) × (are_words w ≡ true)
cut_said None w e = absurd (cc e)
cut_said (Some cut) w e = let both = if_said (said cut) w e in (cut, both.0, both.1)

pub record Settled (a b : Option ℕ) (c : Option (List ℕ)) (d : Option (Option (List ℕ))) (e : Option Source) (w : Words) : Type 0 where
  pub workers : a ≡ Some w.workers
  pub budget : b ≡ Some w.budget
  pub own : c ≡ Some w.own_name
  pub source : e ≡ Some w.source

settled : (a b : Option ℕ) (c : Option (List ℕ)) (d : Option (Option (List ℕ))) (e : Option Source) (w : Words) → settle a b c d e ≡ Some w
    → Settled a b c d e w
settled None b c d e w h = absurd (cc h)
settled (Some a) None c d e w h = absurd (cc h)
settled (Some a) (Some b) None d e w h = absurd (cc h)
settled (Some a) (Some b) (Some c) None e w h = absurd (cc h)
settled (Some a) (Some b) (Some c) (Some d) None w h = absurd (cc h)
settled (Some a) (Some b) (Some c) (Some d) (Some e) w h = record { workers = cc h; budget = cc h; own = cc h; source = cc h }

-- Numbers

ranged : (a b c : Bool) (n m : ℕ) → (if a && b && c then Some n else None) ≡ Some m → (b ≡ true) × (c ≡ true) × (n ≡ m)
ranged true true true n m e = (refl, refl, (let same : n ≡ m = cc e in same))
ranged true true false n m e = absurd (cc e)
ranged true false c n m e = absurd (cc e)
ranged false b c n m e = absurd (cc e)

pub in_range : (least most : ℕ) (word : List ℕ) (n : ℕ) → number_from least most word ≡ Some n → (least ≤ n) × (n ≤ most)
in_range least most word n e =
    let all = ranged (is_number word) (nat_le least (digits_value 10 word)) (nat_le (digits_value 10 word) most) (digits_value 10 word) n e in (
      subst (λ (k : ℕ). least ≤ k) all.2 (leb-true least (digits_value 10 word) all.0),
      subst (λ (k : ℕ). k ≤ most) all.2 (leb-true (digits_value 10 word) most all.1),
    )

given_in_range : (least most default : ℕ) (value : Option (List ℕ)) (n : ℕ) → least ≤ default → default ≤ most
    → unless_given default (number_from least most) value ≡ Some n → (least ≤ n) × (n ≤ most)
given_in_range least most default None n low high e =
    let same : default ≡ n = cc e in
    (subst (λ (k : ℕ). least ≤ k) same low, subst (λ (k : ℕ). k ≤ most) same high)
given_in_range least most default (Some value) n low high e = in_range least most value n e

-- Names

is_named : (fault : Option NameFault) → is_none fault ≡ true → fault ≡ None
is_named None e = refl
is_named (Some fault) e = absurd (cc e)

pub node_is_name : (word : List ℕ) → is_node_name word ≡ true → IsName word
node_is_name word e = is_named (name_fault word) (and_left (is_name word) (not (begins_with 0x5b word)) e)

pub if_name : (test : Bool) (word name : List ℕ) → (test ≡ true → IsName word) → (if test then Some word else None) ≡ Some name → IsName name
if_name true word name is e = let same : word ≡ name = cc e in subst (λ (n : List ℕ). IsName n) same (is refl)
if_name false word name is e = absurd (cc e)

given_name : (value : Option (List ℕ)) (name : List ℕ) → unless_given (codes "ngctl") node_name value ≡ Some name → IsName name
given_name None name e = let same : codes "ngctl" ≡ name = cc e in subst (λ (n : List ℕ). IsName n) same refl
given_name (Some value) name e = if_name (is_node_name value) value name (node_is_name value) e

-- Ports

if_port : (test : Bool) (made port : PortWord) → (test ≡ true → HasName made) → (if test then Some made else None) ≡ Some port → HasName port
if_port true made port is e = let same : made ≡ port = cc e in subst (λ (p : PortWord). HasName p) same (is refl)
if_port false made port is e = absurd (cc e)

pub port_named : (name : List ℕ) (files : Option (List ℕ × List ℕ)) (port : PortWord) → port_if name files ≡ Some port → HasName port
port_named name None port e = absurd (cc e)
port_named name (Some files) port e =
    if_port (is_node_name name) (record { name = name; in_file = files.0; out_file = files.1 }) port (node_is_name name) e

parts_named : (parts : Option (List ℕ × List ℕ)) (port : PortWord) → port_parts InAndOut parts ≡ Some port → HasName port
parts_named None port e = absurd (cc e)
parts_named (Some parts) port e = port_named parts.0 (files_of InAndOut parts.1) port e

pub with_named : (one : Option PortWord) (others : Option (List PortWord)) (ports : List PortWord)
    → ((p : PortWord) → one ≡ Some p → HasName p) → ((ps : List PortWord) → others ≡ Some ps → Every HasName ps)
    → with_port one others ≡ Some ports → Every HasName ports
with_named None others ports a b e = absurd (cc e)
with_named (Some p) None ports a b e = absurd (cc e)
with_named (Some p) (Some ps) ports a b e =
    let same : p ∷ ps ≡ ports = cc e in subst (λ (l : List PortWord). Every HasName l) same (a p refl, b ps refl)

ports_named : (words : List (List ℕ)) (ports : List PortWord) → ports_of InAndOut words ≡ Some ports → Every HasName ports
ports_named [] ports e = let same : [] ≡ ports = cc e in subst (λ (l : List PortWord). Every HasName l) same tt
ports_named (word ∷ words) ports e =
    with_named (port_of InAndOut word) (ports_of InAndOut words) ports (λ p is. parts_named (split_at equals word) p is)
    (λ ps is. ports_named words ps is) e

-- The source

with_fits : (script : Option (List ℕ)) (ports : Option (List PortWord)) (source : Source)
    → ((ps : List PortWord) → ports ≡ Some ps → Every HasName ps) → with_ports script ports ≡ Some source → IsInRange source
with_fits None ports source named e = absurd (cc e)
with_fits (Some script) None source named e = absurd (cc e)
with_fits (Some script) (Some ports) source named e =
    let same : FromFiles script ports ≡ source = cc e in subst (λ (s : Source). IsInRange s) same (named ports refl)

files_fit : (words : List (List ℕ)) (source : Source) → from_files words ≡ Some source → IsInRange source
files_fit [] source e = absurd (cc e)
files_fit (script ∷ words) source e = with_fits (file_name script) (ports_of InAndOut words) source (ports_named words) e

made_fits : (number : Option ℕ) (words : List (List ℕ)) (source : Source)
    → ((n : ℕ) → number ≡ Some n → (1 ≤ n) × (n ≤ 100000)) → made_of number words ≡ Some source → IsInRange source
made_fits None words source range e = absurd (cc e)
made_fits (Some n) [] source range e = let same : Made n ≡ source = cc e in subst (λ (s : Source). IsInRange s) same (range n refl)
made_fits (Some n) (word ∷ words) source range e = absurd (cc e)

source_fits : (value : Option (List ℕ)) (words : List (List ℕ)) (source : Source) → source_by value words ≡ Some source → IsInRange source
source_fits None words source e = files_fit words source e
source_fits (Some value) words source e = made_fits (number_from 1 100000 value) words source (in_range 1 100000 value) e

-- All of it

fit_ports : (source : Source) → IsInRange source → Every HasName (ports_from source)
fit_ports (FromFiles script ports) fits = fits
fit_ports (Made packets) fits = (refl, (refl, (refl, tt)))

form : (cut : Cut) (w : Words) → said cut ≡ Some w → are_words w ≡ true → InForm w
form cut w is all =
    let parts = settled _ _ _ _ _ w is in
    let workers = given_in_range 0 16 0 (value_of (codes "-w") cut.settings) w.workers (omega arith) (omega arith) parts.workers in
    let budget = given_in_range 1 10000000 1000000 (value_of (codes "-b") cut.settings) w.budget (omega arith) (omega arith) parts.budget in
    let fits = source_fits (value_of (codes "-g") cut.settings) cut.others w.source parts.source in
    let ports = and_left (are_ports w.own_name (ports_from w.source)) (are_files (written_files w) (read_files w)) all in
    let files = and_right (are_ports w.own_name (ports_from w.source)) (are_files (written_files w) (read_files w)) all in
    record {
      workers = workers.1;
      some = budget.0;
      most = budget.1;
      own = given_name (value_of (codes "-n") cut.settings) w.own_name parts.own;
      ports = fit_ports w.source fits;
      few = leb-true (length (ports_from w.source)) 64
          (and_left (nat_le (length (ports_from w.source)) 64) (are_different (w.own_name ∷ map (λ port. port.name) (ports_from w.source))) ports);
      names = and_right (nat_le (length (ports_from w.source)) 64) (are_different (w.own_name ∷ map (λ port. port.name) (ports_from w.source))) ports;
      lone = and_left (are_different (written_files w)) (are_apart (written_files w) (read_files w)) files;
      source = fits;
    }

pub in_form : (words : List (List ℕ)) (w : Words) → words_of words ≡ Some w → InForm w
in_form words w e = let found = cut_said (cut_of words) w e in form found.0 w found.1 found.2
