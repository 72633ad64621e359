-- Refusals as results.
use Rattle.std.specs.Prelude.{Bool, false, ◌==◌, Option, Some, None, Result, Ok, Err}
use Rattle.ng_base.specs.declared.errno.Errno.{Errno}

abbrev pub refused : Option Errno → Result Unit Errno
refused None = Ok tt
refused (Some errno) = Err errno

-- the refusal is of this error
abbrev pub has_error : Errno → Result Unit Errno → Bool
has_error errno (Ok x) = false
has_error errno (Err e) = e.0 == errno.0
