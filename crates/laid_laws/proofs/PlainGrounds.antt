-- The predefined modes of an evaluation's ground are plain ones.
use Rattle.std.proofs.Common.{◌≡◌, true, Option, Some, None, refl, ap, ◌∙◌}
use Rattle.std.specs.Prelude.{slice_get, option_map}
use Rattle.class_operators.specs.Predefined.{predefined_tree}
use Rattle.class_operators.specs.declared.predefined.Predefined.{Predefined}
use Rattle.class_operators.specs.declared.predefined.Predefined.TheVariants as names
use Rattle.definition_origins.specs.declared.origin.Origin.{Origin}
use Rattle.definition_origins.specs.declared.origin.Origin.TheVariants as origins
use Rattle.definition_origins.specs.OriginTrees.{origin_tree}
use Rattle.constant_operators.specs.Grounds.{ground_of}
use Rattle.constant_operators.specs.declared.evaluation.Evaluation.{Evaluation}
use Rattle.constant_operators.proofs.Grounds.{origins-there}
use Rattle.laid_laws.proofs.NamedModes.{plain_mode, plain_origin, HasPlainModes}

predefined_plain : (p : Predefined) → plain_mode (predefined_tree p) ≡ true
predefined_plain names.Int = refl
predefined_plain names.Bool = refl
predefined_plain names.Char = refl
predefined_plain names.Instance = refl
predefined_plain names.True = refl
predefined_plain names.False = refl
predefined_plain names.Null = refl
predefined_plain names.Num = refl
predefined_plain names.Succ = refl
predefined_plain names.Pred = refl
predefined_plain names.Abs = refl
predefined_plain names.Card = refl
predefined_plain names.Min = refl
predefined_plain names.Max = refl
predefined_plain names.Upper = refl
predefined_plain names.Lower = refl
predefined_plain names.Size = refl
predefined_plain names.PutInt = refl
predefined_plain names.PutText = refl
predefined_plain names.PutLine = refl
predefined_plain names.GetInt = refl

origin_plain : (o : Option Origin) → plain_origin (option_map origin_tree o) ≡ true
origin_plain None = refl
origin_plain (Some (origins.Synonym s f)) = refl
origin_plain (Some (origins.SynMode d)) = refl
origin_plain (Some (origins.NewMode d)) = refl
origin_plain (Some (origins.Element x)) = refl
origin_plain (Some (origins.Location d f)) = refl
origin_plain (Some (origins.Parameter m p f)) = refl
origin_plain (Some (origins.Counter c)) = refl
origin_plain (Some (origins.Received a part)) = refl
origin_plain (Some (origins.Procedure p)) = refl
origin_plain (Some (origins.Process p)) = refl
origin_plain (Some (origins.Signal s)) = refl
origin_plain (Some (origins.Modulion m)) = refl
origin_plain (Some (origins.Predefined p)) = predefined_plain p

pub named_plain : (e : Evaluation) → HasPlainModes (ground_of e)
named_plain e = by_number
  where
    by_number : HasPlainModes (ground_of e)
    by_number None = refl
    by_number (Some d) = ap plain_origin (origins-there e d) ∙ origin_plain (slice_get e.origins d)
