use Rattle.ngctl_script.proofs.feed.Merged.{rest_by, many_by}
use Rattle.ngctl_script.proofs.feed.merge.take_next.Goals as goal

pub returns-clause-rest : goal.returns-clause-rest
returns-clause-rest c = rest_by c.args.queues.now.items c.take_first.new.queues.items c.take_first.result c.take_first.ensures.next

pub returns-clause-queues : goal.returns-clause-queues
returns-clause-queues c = many_by c.args.queues.now.items c.take_first.new.queues.items c.take_first.result c.take_first.ensures.next
