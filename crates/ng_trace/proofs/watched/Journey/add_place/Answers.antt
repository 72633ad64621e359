use Rattle.std.proofs.Common.{length, ap, ◌∙◌, arith}
use Rattle.std.proofs.lemmas.Bool.{lt-ltb, le-ltb}
use Rattle.ng_trace.specs.Watched.{add_place}
use Rattle.ng_trace.proofs.Journeys.{placed, counted}
use Rattle.ng_trace.proofs.watched.Journey.add_place.Goals as goal

pub returns-then-len-lt-MOST_PLACES : goal.returns-then-len-lt-MOST_PLACES
returns-then-len-lt-MOST_PLACES c =
    placed c.self.inside.reached c.self.inside.places.items c.push.new.self.items c.self.inside.more c.args.place c.if-self.false
    (lt-ltb (length c.self.inside.places.items) 8 (omega (arith, c.len.ensures, c.if-len-lt-MOST_PLACES.true))) c.in_ok-push.ensures.items
    ∙ ap (add_place c.args.place) c.self.view_is

pub returns : goal.returns
returns c =
    counted c.self.inside.reached c.self.inside.places.items c.self.inside.more c.in-Some.more c.args.place c.if-self.false
    (le-ltb (length c.self.inside.places.items) 8 (omega (arith, c.len.ensures, c.if-len-lt-MOST_PLACES.false))) c.in-Some.ensures.1
    ∙ ap (add_place c.args.place) c.self.view_is
