-- The predefined names of the program are those of the definitions.
use Rattle.std.specs.Prelude.{Bool, true, false}
use Rattle.modes.specs.ModeTree.{ClassTree, int, boolean, char, instance}
use Rattle.checks_model.specs.Ground as model
use Rattle.checks_model.specs.Operations.{argument_misfits}
use Rattle.class_operators.specs.declared.predefined.Predefined.{Predefined}
use Rattle.class_operators.specs.declared.predefined.Predefined.TheVariants as predefined

abbrev pub predefined_tree : Predefined → model.Predefined
predefined_tree predefined.Int = model.of_mode int
predefined_tree predefined.Bool = model.of_mode boolean
predefined_tree predefined.Char = model.of_mode char
predefined_tree predefined.Instance = model.of_mode instance
predefined_tree predefined.True = model.truth true
predefined_tree predefined.False = model.truth false
predefined_tree predefined.Null = model.no_instance
predefined_tree predefined.Num = model.num
predefined_tree predefined.Succ = model.succ
predefined_tree predefined.Pred = model.pred
predefined_tree predefined.Abs = model.abs
predefined_tree predefined.Card = model.card
predefined_tree predefined.Min = model.min
predefined_tree predefined.Max = model.max
predefined_tree predefined.Upper = model.upper
predefined_tree predefined.Lower = model.lower
predefined_tree predefined.Size = model.size
predefined_tree predefined.PutInt = model.put_int
predefined_tree predefined.PutText = model.put_text
predefined_tree predefined.PutLine = model.put_nl
predefined_tree predefined.GetInt = model.get_int

-- PUT_INT and PUT_TEXT alone refuse an argument by this; the other routines by the class of their result
abbrev pub cannot_be_put : Predefined → ClassTree → Bool
cannot_be_put predefined.PutInt c = argument_misfits model.put_int c
cannot_be_put predefined.PutText c = argument_misfits model.put_text c
cannot_be_put _ c = false
