-- What a plan is made of, and the way that it stands for.
use Rattle.ng_machine.specs.declared.plan.Plan.{Plan}
use Rattle.ng_machine.specs.declared.plan.Plan.TheVariants.{Discard, Echo, Fan, Ways, Vlan, Patch, Bpf, Ether, Socket, Bridge, Etf, Macset}
use Rattle.ng_plan.specs.declared.form.Form.{Form}
use Rattle.ng_plan.specs.declared.form.Form.TheVariants.{OfHole, OfEcho, OfHub, ByHooks, OfVlan, OfPatch, OfBpf, OfEther, OfSocket, OfBridge, OfEtf, OfMacset}

abbrev pub way_of_form : Form → Plan
way_of_form OfHole = Discard
way_of_form OfEcho = Echo
way_of_form (OfHub hooks) = Fan hooks
way_of_form (ByHooks kind hooks) = Ways kind hooks
way_of_form (OfVlan p) = Vlan p.hooks p.kind p.filters
way_of_form (OfPatch p) = Patch p.hooks p.ops
way_of_form (OfBpf p) = Bpf p.ways
way_of_form (OfEther lower) = Ether lower
way_of_form OfSocket = Socket
way_of_form (OfBridge p) = Bridge p.config p.links p.hosts
way_of_form (OfEtf p) = Etf p.hooks p.filters
way_of_form (OfMacset p) = Macset p.hooks p.set
