use Rattle.std.proofs.Common.{subst}
use Rattle.ng_core_state.specs.declared.handed.Tool.{Tool}
use Rattle.ng_machine.specs.Desk.{job_of}
use Rattle.ng_core_state.specs.Handed.{IsJobBy}
use Rattle.ng_core_state.proofs.ServedItems.{none_reads}
use Rattle.ng_core_state.proofs.TakenItems.{next_job}
use Rattle.ng_core_state.proofs.state.State.next_read.Goals as goal

pub returns-in_default-clause-none : goal.returns-in_default-clause-none
returns-in_default-clause-none g c = λ a item plan S N e. c.in_default.ensures.none a S item N.may

pub returns-in-Plan-clause-job : goal.returns-in-Plan-clause-job
returns-in-Plan-clause-job g c = λ a item node S e here.
    subst (λ (t : Tool). IsJobBy t item node (job_of a.world item)) c.in-Plan.is
    (next_job c.args.self.now a c.in-Some.at c.in-Some.tool item node S e here c.in-Some.ensures.tool)

pub returns-in-Node : goal.returns-in-Node
returns-in-Node g c = record {
  least = tt;
  job = tt;
  none = λ a item plan S N e. none_reads c.args.self.now a c.in-Some.at c.in-Some.tool item plan S c.in-Some.ensures.some c.in-Some.ensures.tool c.in-Node.is N e;
}
