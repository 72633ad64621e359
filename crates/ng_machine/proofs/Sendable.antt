-- Items, inputs and what is told may go to another thread.
use denote.Param.Send.{IsSend, sendable}
use Rattle.ng_base.proofs.Sendable.{name_send}
use Rattle.ng_machine.specs.contracts.body.Body as Body
use Rattle.ng_machine.specs.contracts.input.Input as Input
use Rattle.ng_machine.specs.contracts.item.Item as Item
use Rattle.ng_machine.specs.contracts.told.Told as Told
use Rattle.std.proofs.Crossing.{crosses}
use Rattle.std.proofs.MapsCrossing.{crosses as maps}

pub body_send : IsSend Body.the_row
body_send = search (sendable, crosses, maps) depth 40

pub item_send : IsSend Item.the_row
item_send = search (body_send, sendable, crosses, maps) depth 90 fits 300000

pub told_send : IsSend Told.the_row
told_send = search (sendable, crosses, maps) depth 40

pub input_send : IsSend Input.the_row
input_send = search (name_send, sendable, crosses, maps) depth 90 fits 300000

pub input_field_send : IsSend (Input.the_field).row
input_field_send = search (sendable, crosses, maps) depth 90 fits 300000
