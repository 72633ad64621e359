-- What is known of words that are in form.
use Rattle.std.proofs.Common.{◌≡◌, ℕ, ◌≤◌, Bool, true, false, nat_le, if◌then◌else◌, List, [], ◌∷◌, ◌++◌, filter, length, map, Option, Some, None, refl, ap, subst, ◌∙◌}
use Rattle.std.proofs.lemmas.Bool.{leb-true}
use Rattle.ng_base.specs.Name.{IsName}
use Rattle.ng_decimal.specs.Decimal.{number_from}
use Rattle.ng_machine.specs.Words.{Every}
use Rattle.ng_call.specs.Said as run
use Rattle.ng_call.proofs.Said.{and_left, and_right, if_name, in_range, node_is_name}
use Rattle.ng_args.specs.Lists.{are_undashed}
use Rattle.ng_base.specs.Names.{are_different}
use Rattle.ng_args.specs.Names.{is_node_name, node_name, file_name}
use Rattle.ng_args.specs.Ports.{split_at, equals, port_parts, port_of, with_port, ports_of}
use Rattle.ng_args.specs.Replay.{replay_said, replay_parts, are_replay_words, if_replay_words, replay_words_of}
use Rattle.ng_args.specs.Together.{are_ports, are_files, ins, is_file, outs}
use Rattle.ng_args.specs.declared.port.PortForm.TheVariants.{InAlone}
use Rattle.ng_args.specs.declared.port.PortWord.{PortWord}
use Rattle.ng_args.specs.declared.words.ReplayWords.{ReplayWords}
use Rattle.ng_replay.specs.Said.{InForm}

-- The parts of words

if_that : (test : Bool) (v w : ReplayWords) → (if test then Some v else None) ≡ Some w → (test ≡ true) × (v ≡ w)
if_that true v w e = (refl, (let same : v ≡ w = cc e in same))
if_that false v w e = absurd (cc e)

if_said : (x : Option ReplayWords) (w : ReplayWords) → if_replay_words x ≡ Some w → (x ≡ Some w) × (are_replay_words w ≡ true)
if_said None w e = absurd (cc e)
if_said (Some v) w e =
    let both = if_that (are_replay_words v) v w e in
    let one : Some v ≡ Some w = cc both.1 in
    (one, subst (λ (u : ReplayWords). are_replay_words u ≡ true) both.1 both.0)

undashed_said : (test : Bool) (x : Option ReplayWords) (w : ReplayWords) → (if test then x else None) ≡ Some w → x ≡ Some w
undashed_said true x w e = e
undashed_said false x w e = absurd (cc e)

record Settled (a b : Option ℕ) (c : Option (List ℕ)) (ports : Option (List PortWord)) (w : ReplayWords) : Type 0 where
  budget : a ≡ Some w.budget
  workers : b ≡ Some w.workers
  own : c ≡ Some w.own_name
  ports_are : ports ≡ Some w.ports

settled : (a b : Option ℕ) (c d e : Option (List ℕ)) (ports : Option (List PortWord)) (w : ReplayWords) → replay_said a b c d e ports ≡ Some w → Settled a b c ports w
settled None b c d e f w h = absurd (cc h)
settled (Some a) None c d e f w h = absurd (cc h)
settled (Some a) (Some b) None d e f w h = absurd (cc h)
settled (Some a) (Some b) (Some c) None e f w h = absurd (cc h)
settled (Some a) (Some b) (Some c) (Some d) None f w h = absurd (cc h)
settled (Some a) (Some b) (Some c) (Some d) (Some e) None w h = absurd (cc h)
settled (Some a) (Some b) (Some c) (Some d) (Some e) (Some f) w h = record { budget = cc h; workers = cc h; own = cc h; ports_are = cc h }

-- Ports, for which nothing is written

record IsRead (port : PortWord) : Type 0 where
  named : run.HasName port
  alone : port.out_file ≡ []

if_port : (test : Bool) (made port : PortWord) → (test ≡ true → IsRead made) → (if test then Some made else None) ≡ Some port → IsRead port
if_port true made port is e = let same : made ≡ port = cc e in subst IsRead same (is refl)
if_port false made port is e = absurd (cc e)

parts_read : (parts : Option (List ℕ × List ℕ)) (port : PortWord) → port_parts InAlone parts ≡ Some port → IsRead port
parts_read None port e = absurd (cc e)
parts_read (Some parts) port e =
    if_port (is_node_name parts.0) (record { name = parts.0; in_file = parts.1; out_file = [] }) port (λ is. record { named = node_is_name parts.0 is; alone = refl }) e

with_read : (one : Option PortWord) (others : Option (List PortWord)) (ports : List PortWord)
    → ((p : PortWord) → one ≡ Some p → IsRead p) → ((ps : List PortWord) → others ≡ Some ps → Every IsRead ps)
    → with_port one others ≡ Some ports → Every IsRead ports
with_read None others ports a b e = absurd (cc e)
with_read (Some p) None ports a b e = absurd (cc e)
with_read (Some p) (Some ps) ports a b e =
    let same : p ∷ ps ≡ ports = cc e in subst (λ (l : List PortWord). Every IsRead l) same (a p refl, b ps refl)

ports_read : (words : List (List ℕ)) (ports : List PortWord) → ports_of InAlone words ≡ Some ports → Every IsRead ports
ports_read [] ports e = let same : [] ≡ ports = cc e in subst (λ (l : List PortWord). Every IsRead l) same tt
ports_read (word ∷ words) ports e =
    with_read (port_of InAlone word) (ports_of InAlone words) ports (λ p is. parts_read (split_at equals word) p is)
    (λ ps is. ports_read words ps is) e

all_named : (ports : List PortWord) → Every IsRead ports → Every run.HasName ports
all_named [] all = tt
all_named (port ∷ ports) all = (all.0.named, all_named ports all.1)

no_outs : (ports : List PortWord) → Every IsRead ports → outs ports ≡ []
no_outs [] all = refl
no_outs (port ∷ ports) all =
    ap (λ (name : List ℕ). filter is_file (name ∷ map (λ (p : PortWord). p.out_file) ports)) all.0.alone ∙ no_outs ports all.1

-- All of it

record Spoken (w : ReplayWords) : Type 0 where
  some : 1 ≤ w.budget
  most : w.budget ≤ 10000000
  few_workers : w.workers ≤ 16
  own : IsName w.own_name
  read : Every IsRead w.ports

spoken_by : (budget workers own journal script : List ℕ) (ports : List (List ℕ)) (w : ReplayWords) → replay_parts (budget ∷ workers ∷ own ∷ journal ∷ script ∷ ports) ≡ Some w → Spoken w
spoken_by budget workers own journal script ports w e =
    let S = settled (number_from 1 10000000 budget) (number_from 0 16 workers) (node_name own) (file_name journal) (file_name script) (ports_of InAlone ports) w e in
    let range = in_range 1 10000000 budget w.budget S.budget in
    record {
      some = range.0;
      most = range.1;
      few_workers = (in_range 0 16 workers w.workers S.workers).1;
      own = if_name (is_node_name own) own w.own_name (node_is_name own) S.own;
      read = ports_read ports w.ports S.ports_are;
    }

spoken : (words : List (List ℕ)) (w : ReplayWords) → replay_parts words ≡ Some w → Spoken w
spoken [] w e = absurd (cc e)
spoken (a ∷ []) w e = absurd (cc e)
spoken (a ∷ b ∷ []) w e = absurd (cc e)
spoken (a ∷ b ∷ c ∷ []) w e = absurd (cc e)
spoken (a ∷ b ∷ c ∷ d ∷ []) w e = absurd (cc e)
spoken (a ∷ b ∷ c ∷ d ∷ e ∷ ports) w h = spoken_by a b c d e ports w h

form : (w : ReplayWords) → Spoken w → are_replay_words w ≡ true → InForm w
form w S all =
    let ports = and_left (are_ports w.own_name w.ports) (are_files (w.journal ∷ []) (w.script ∷ ins w.ports)) all in record {
      of_run = record {
        workers = S.few_workers;
        some = S.some;
        most = S.most;
        own = S.own;
        ports = all_named w.ports S.read;
        few = leb-true (length w.ports) 64 (and_left (nat_le (length w.ports) 64) (are_different (w.own_name ∷ map (λ port. port.name) w.ports)) ports);
        names = and_right (nat_le (length w.ports) 64) (are_different (w.own_name ∷ map (λ port. port.name) w.ports)) ports;
        lone = ap (λ (l : List (List ℕ)). are_different (l ++ w.journal ∷ [])) (no_outs w.ports S.read);
        source = all_named w.ports S.read;
      };
      workers = S.few_workers;
    }

pub in_form : (words : List (List ℕ)) (w : ReplayWords) → replay_words_of words ≡ Some w → InForm w
in_form words w e =
    let both = if_said (replay_parts words) w (undashed_said (are_undashed words) (if_replay_words (replay_parts words)) w e) in
    form w (spoken words w both.0) both.1
