-- A choice by a test: what the models of all crates are made of.
use Rattle.std.specs.Prelude.{Bool, true, false}

abbrev pub ifte : {A : Type 0} → Bool → A → A → A
ifte true a b = a
ifte false a b = b
