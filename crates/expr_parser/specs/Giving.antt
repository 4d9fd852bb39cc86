-- What a function that reads answers, against what reading from the front gives.
use Rattle.std.specs.Prelude.{◌≡◌, Result, Ok, Err}
use Rattle.expr_parser.specs.declared.refusal.ParseRefusal.{ParseRefusal}
use Rattle.expr_parser.specs.declared.refusal.ParseRefusal.TheVariants as refusals
use Rattle.rules_model.specs.Reading.{Fault, Deep, Absent}

-- a refusal says why reading fails, unless memory was wanting
abbrev pub Fails : {Y : Type 0} → ParseRefusal → Result Y Fault → Type 0
Fails refusals.Memory read = Unit {0}
Fails (refusals.TooDeep at) read = read ≡ Err (Deep at)
Fails (refusals.NoProgram at) read = read ≡ Err (Absent at)

-- what was returned, seen by view, is what reading gives
abbrev pub Gives : {X Y : Type 0} → (X → Y) → Result X ParseRefusal → Result Y Fault → Type 0
Gives view (Ok x) read = read ≡ Ok (view x)
Gives view (Err e) read = Fails e read
