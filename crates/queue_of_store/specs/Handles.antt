-- A handle of the calls as a handle of the definitions. Document 01: "a handle is a slot and a generation".
use Rattle.handle.specs.declared.Handle as H
use Rattle.rules.specs.Queue.{Handle, handle}

abbrev pub plain : H.Handle → Handle
plain h = handle h.slot.0 h.generation.0
