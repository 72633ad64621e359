use Rattle.std.proofs.Common.{◌∙◌, ℕ, [], ◌∷◌, ◌++◌, List, Bool, true, false, length, ap, sym, subst, refl}
use Rattle.std.specs.declared.option.Option.{Option}
use Rattle.ng_machine.specs.declared.told.Told.{Told}
use Rattle.ng_machine.specs.declared.told.Told.TheVariants.{Frame}
use Rattle.ng_queue.specs.pending.Holds.{HoldsItems, in_world, spooled}
use Rattle.ng_queue.specs.Queues.{QueueLists}
use Rattle.ng_core_state.specs.service.Leaving.{name_or_empty}
use Rattle.ng_core_state.proofs.service.Exits.{stands_read}
use Rattle.ng_core_state.proofs.service.leaving.leave_to_reader.Goals as goal

pub returns-then-leave-clause-stands : goal.returns-then-leave-clause-stands
returns-then-leave-clause-stands g c = λ a stamp S.
    stands_read c.args.state.now (record c.args.state.now { pending = c.leave.new.self; told = c.push_reserved.new.self }) a true (name_or_empty c.args.hook.now) c.args.packet S
    (subst (λ (b : Bool). HoldsItems c.leave.new.self (in_world a (spooled b a.world c.args.packet))) c.if-leave.true (c.leave.ensures.holds a S.items)) refl
    (ap (λ (q : QueueLists). length q.lists) c.leave.ensures.queues)
    (c.push_reserved.ensures.items ∙ ap (λ (l : List Told). l ++ Frame c.in-Some.hook c.args.packet ∷ []) S.told
    ∙ ap (λ (o : Option (List ℕ)). a.world.told ++ Frame (name_or_empty o) c.args.packet ∷ []) (sym c.in-Some.is))
    (c.leave.ensures.answer a S.items ∙ c.if-leave.true) refl

pub returns-else-leave-clause-stands : goal.returns-else-leave-clause-stands
returns-else-leave-clause-stands g c = λ a stamp S.
    stands_read c.args.state.now (record c.args.state.now { pending = c.leave.new.self }) a false (name_or_empty c.args.hook.now) c.args.packet S
    (subst (λ (b : Bool). HoldsItems c.leave.new.self (in_world a (spooled b a.world c.args.packet))) c.if-leave.false (c.leave.ensures.holds a S.items)) refl
    (ap (λ (q : QueueLists). length q.lists) c.leave.ensures.queues) S.told (c.leave.ensures.answer a S.items ∙ c.if-leave.false) refl
