-- The names of a text that breaks no rule on modes and constants.
use Rattle.std.proofs.Common.{ℕ, List, ap}
use Rattle.chill_tree.specs.ItemTree.{ProgramTree}
use Rattle.checks_model.specs.Diagnoses.{HasModes}
use Rattle.checks_model.specs.Ground.{Ground, Origin, a_synonym, a_mode, a_location, a_parameter}
use Rattle.written_laws.proofs.WrittenSo.{all_written, all_defined}
use Rattle.order_laws.proofs.Selves.{text_order}
use Rattle.there_laws.specs.Table.{IsSound, AllSound}
use Rattle.there_laws.specs.Told.{IsUntold}
use Rattle.there_laws.specs.Plain.{IsNamedSo, TextThereLaw}
use Rattle.there_laws.proofs.Table.{IsNumberThere, numbers_there, table_there}
use Rattle.there_laws.proofs.Told.{untold}
use Rattle.there_laws.proofs.Named.{all_named}

sound : (g : Ground) (o : Origin) → IsNamedSo g o → IsUntold g o → IsSound g o
sound g (a_synonym s) named none = (named, none)
sound g (a_mode novel w) named none = (named, none)
sound g (a_location d) named none = (named, none)
sound g (a_parameter w) named none = (named, none)
sound g o named none = tt

all_sound : (text : List ℕ) (t : ProgramTree) (g : Ground) → HasModes text t g → AllSound g
all_sound text t g has d o at =
    let names = has.is_ground.names in sound g o (all_named text t g has.has_names names d o at) (untold g t (ap (λ (h : Ground). h.origins) names) has.modes d o at)

pub text_numbers : (text : List ℕ) (t : ProgramTree) (g : Ground) → HasModes text t g → (d : ℕ) → IsNumberThere g d
text_numbers text t g has d =
    let names = has.is_ground.names in
    let order = text_order text t g has.has_names names in
    numbers_there g order.0 has.is_ground.entries order.1 (all_defined text t g has.has_names names) (all_written text t g has.has_names names) (all_sound text t g has) d

pub text_there : TextThereLaw
text_there text t g has =
    let names = has.is_ground.names in
    let order = text_order text t g has.has_names names in
    let all = all_sound text t g has in
    table_there g order.0 has.is_ground.entries order.1 (all_defined text t g has.has_names names) (all_written text t g has.has_names names) all
