-- What a mode is, with names, READ and ranges looked through.
use Rattle.std.specs.Prelude.{ℕ, Bool}
use Rattle.modes.specs.declared.form.Form.{Form}
use Rattle.modes.specs.declared.form.Form.TheVariants as forms
use Rattle.modes.specs.ModeTree.{ModeTree, int, boolean, char, instance, set_of, range, powerset, chars, array, structure, event, buffer, read, named, FieldNodes, field_nodes, field_trees, SpreadTree, spread_tree, mode_tree}

pub data FormTree : Type 0 where
  of_int : FormTree
  of_boolean : FormTree
  of_char : FormTree
  of_instance : FormTree
  of_set : ℕ → ℕ → FormTree
  of_powerset : ModeTree → FormTree
  of_chars : ℕ → FormTree
  of_array : ModeTree → ModeTree → SpreadTree → FormTree
  of_structure : FieldNodes → Bool → FormTree
  of_meeting : FormTree

abbrev pub form_of : ModeTree → FormTree
form_of int = of_int
form_of boolean = of_boolean
form_of char = of_char
form_of instance = of_instance
form_of (set_of d n) = of_set d n
form_of (range p l h) = form_of p
form_of (powerset m) = of_powerset m
form_of (chars n) = of_chars n
form_of (array i e how) = of_array i e how
form_of (structure fs p) = of_structure fs p
form_of (event l) = of_meeting
form_of (buffer l e) = of_meeting
form_of (read m) = form_of m
form_of (named d n m) = form_of m

-- the tree of a form
abbrev pub form_tree : Form → FormTree
form_tree forms.Int = of_int
form_tree forms.Bool = of_boolean
form_tree forms.Char = of_char
form_tree forms.Instance = of_instance
form_tree (forms.Set d n) = of_set d n
form_tree (forms.Powerset m) = of_powerset (mode_tree m.now.value)
form_tree (forms.Chars n) = of_chars n
form_tree (forms.Array i e how) = of_array (mode_tree i.now.value) (mode_tree e.now.value) (spread_tree how)
form_tree (forms.Struct fs p) = of_structure (field_nodes (field_trees fs.now)) p
form_tree forms.Meeting = of_meeting
