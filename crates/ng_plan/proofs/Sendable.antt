-- A plan may go to another thread, and be shared among them.
use denote.Param.Send.{IsSend, IsSync, sendable}
use Rattle.ng_bpf_vm.proofs.Sendable.{program_field_send, program_field_sync}
use Rattle.ng_plan.specs.contracts.bpf.BpfPlan as BpfPlan
use Rattle.ng_plan.specs.contracts.bridge_plan.bridge.BridgePlan as BridgePlan
use Rattle.ng_plan.specs.contracts.etf.EtfPlan as EtfPlan
use Rattle.ng_plan.specs.contracts.form.Form as Form
use Rattle.ng_plan.specs.contracts.lookup.filters.Filters as Filters
use Rattle.ng_plan.specs.contracts.lookup.hooks.Hooks as Lookup
use Rattle.ng_plan.specs.contracts.macset.MacsetPlan as MacsetPlan
use Rattle.ng_plan.specs.contracts.patch.PatchPlan as PatchPlan
use Rattle.ng_plan.specs.contracts.plan.Plan as Plan
use Rattle.ng_plan.specs.contracts.vlan.VlanPlan as VlanPlan
use Rattle.std.proofs.Crossing.{crosses}
use Rattle.std.proofs.MapsCrossing.{crosses as maps}

lookup_field_send : IsSend (Lookup.the_field).row
lookup_field_send = search (sendable, crosses, maps) depth 90 fits 300000

lookup_field_sync : IsSync (Lookup.the_field).row
lookup_field_sync = search (sendable, crosses, maps) depth 90 fits 300000

filters_field_send : IsSend (Filters.the_field).row
filters_field_send = search (sendable, crosses, maps) depth 90 fits 300000

filters_field_sync : IsSync (Filters.the_field).row
filters_field_sync = search (sendable, crosses, maps) depth 90 fits 300000

bridge_field_send : IsSend (BridgePlan.the_field).row
bridge_field_send = search (sendable, crosses, maps) depth 90 fits 300000

bridge_field_sync : IsSync (BridgePlan.the_field).row
bridge_field_sync = search (sendable, crosses, maps) depth 90 fits 300000

bpf_field_send : IsSend (BpfPlan.the_field).row
bpf_field_send = search (sendable, crosses, maps) depth 90 fits 300000

bpf_field_sync : IsSync (BpfPlan.the_field).row
bpf_field_sync = search (sendable, crosses, maps) depth 90 fits 300000

etf_field_send : IsSend (EtfPlan.the_field).row
etf_field_send = search (sendable, crosses, maps) depth 90 fits 300000

etf_field_sync : IsSync (EtfPlan.the_field).row
etf_field_sync = search (sendable, crosses, maps) depth 90 fits 300000

macset_field_send : IsSend (MacsetPlan.the_field).row
macset_field_send = search (sendable, crosses, maps) depth 90 fits 300000

macset_field_sync : IsSync (MacsetPlan.the_field).row
macset_field_sync = search (sendable, crosses, maps) depth 90 fits 300000

patch_field_send : IsSend (PatchPlan.the_field).row
patch_field_send = search (sendable, crosses, maps) depth 90 fits 300000

patch_field_sync : IsSync (PatchPlan.the_field).row
patch_field_sync = search (sendable, crosses, maps) depth 90 fits 300000

vlan_field_send : IsSend (VlanPlan.the_field).row
vlan_field_send = search (sendable, crosses, maps) depth 90 fits 300000

vlan_field_sync : IsSync (VlanPlan.the_field).row
vlan_field_sync = search (sendable, crosses, maps) depth 90 fits 300000

form_field_send : IsSend (Form.the_field).row
form_field_send = search (lookup_field_send, filters_field_send, program_field_send, bridge_field_send, bpf_field_send, etf_field_send, macset_field_send, patch_field_send, vlan_field_send, sendable, crosses, maps) depth 90 fits 300000

form_field_sync : IsSync (Form.the_field).row
form_field_sync = search (lookup_field_sync, filters_field_sync, program_field_sync, bridge_field_sync, bpf_field_sync, etf_field_sync, macset_field_sync, patch_field_sync, vlan_field_sync, sendable, crosses, maps) depth 90 fits 300000

pub plan_send : IsSend Plan.the_row
plan_send = let a : IsSend (Form.the_field).row = form_field_send in search (sendable, crosses, maps) depth 40

pub plan_sync : IsSync Plan.the_row
plan_sync = let a : IsSync (Form.the_field).row = form_field_sync in search (sendable, crosses, maps) depth 40
