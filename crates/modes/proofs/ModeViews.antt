-- The trees of modes that are built.
use Rattle.std.proofs.Common.{◌≡◌, ℕ, Bool, List, Option, ap, sym, ◌∙◌}
use Rattle.std.specs.Prelude.{ℤ, option_map}
use Rattle.std.specs.declared.alloc.Global.{Global}
use Rattle.std.specs.declared.rc.Rc.{Rc}
use Rattle.modes.specs.declared.mode.Mode.{Mode, fold-Mode, fold-roll-Mode}
use Rattle.modes.specs.declared.mode.Mode.TheOpen as opens
use Rattle.modes.specs.declared.mode.Mode.TheVariants as made
use Rattle.modes.specs.declared.mode.Field.{Field, out-Field, fold_out-Field}
use Rattle.modes.specs.declared.mode.Spread.{Spread}
use Rattle.modes.specs.ModeTree.{ModeTree, int, boolean, char, instance, set_of, range, powerset, chars, array, structure, event, buffer, read, named, FieldTree, field_nodes, place_tree, spread_tree, mode_layer, field_layer, mode_tree, field_tree, field_trees}

pub tree-int : mode_tree made.Int ≡ int
unfolding mode_tree field_tree
tree-int = ap (fold-Mode ModeTree FieldTree mode_layer field_layer) (sym (made.rolls-Int)) ∙ fold-roll-Mode ModeTree FieldTree mode_layer field_layer opens.Int

pub tree-boolean : mode_tree made.Bool ≡ boolean
unfolding mode_tree field_tree
tree-boolean = ap (fold-Mode ModeTree FieldTree mode_layer field_layer) (sym (made.rolls-Bool)) ∙ fold-roll-Mode ModeTree FieldTree mode_layer field_layer opens.Bool

pub tree-char : mode_tree made.Char ≡ char
unfolding mode_tree field_tree
tree-char = ap (fold-Mode ModeTree FieldTree mode_layer field_layer) (sym (made.rolls-Char)) ∙ fold-roll-Mode ModeTree FieldTree mode_layer field_layer opens.Char

pub tree-instance : mode_tree made.Instance ≡ instance
unfolding mode_tree field_tree
tree-instance = ap (fold-Mode ModeTree FieldTree mode_layer field_layer) (sym (made.rolls-Instance)) ∙ fold-roll-Mode ModeTree FieldTree mode_layer field_layer opens.Instance

pub tree-set_of : (d n : ℕ) → mode_tree (made.Set d n) ≡ set_of d n
unfolding mode_tree field_tree
tree-set_of d n = ap (fold-Mode ModeTree FieldTree mode_layer field_layer) (sym (made.rolls-Set d n)) ∙ fold-roll-Mode ModeTree FieldTree mode_layer field_layer (opens.Set d n)

pub tree-range : (p : Rc Mode Global) (l h : ℤ) → mode_tree (made.Range p l h) ≡ range (mode_tree p.value) l h
unfolding mode_tree field_tree
tree-range p l h = ap (fold-Mode ModeTree FieldTree mode_layer field_layer) (sym (made.rolls-Range p l h)) ∙ fold-roll-Mode ModeTree FieldTree mode_layer field_layer (opens.Range p l h)

pub tree-powerset : (m : Rc Mode Global) → mode_tree (made.Powerset m) ≡ powerset (mode_tree m.value)
unfolding mode_tree field_tree
tree-powerset m = ap (fold-Mode ModeTree FieldTree mode_layer field_layer) (sym (made.rolls-Powerset m)) ∙ fold-roll-Mode ModeTree FieldTree mode_layer field_layer (opens.Powerset m)

pub tree-chars : (n : ℕ) → mode_tree (made.Chars n) ≡ chars n
unfolding mode_tree field_tree
tree-chars n = ap (fold-Mode ModeTree FieldTree mode_layer field_layer) (sym (made.rolls-Chars n)) ∙ fold-roll-Mode ModeTree FieldTree mode_layer field_layer (opens.Chars n)

pub tree-array : (i e : Rc Mode Global) (how : Spread) → mode_tree (made.Array i e how) ≡ array (mode_tree i.value) (mode_tree e.value) (spread_tree how)
unfolding mode_tree field_tree
tree-array i e how = ap (fold-Mode ModeTree FieldTree mode_layer field_layer) (sym (made.rolls-Array i e how)) ∙ fold-roll-Mode ModeTree FieldTree mode_layer field_layer (opens.Array i e how)

pub tree-structure : (fs : List Field) (p : Bool) → mode_tree (made.Struct fs p) ≡ structure (field_nodes (field_trees fs)) p
unfolding mode_tree field_tree
tree-structure fs p = ap (fold-Mode ModeTree FieldTree mode_layer field_layer) (sym (made.rolls-Struct fs p)) ∙ fold-roll-Mode ModeTree FieldTree mode_layer field_layer (opens.Struct fs p)

pub tree-event : (l : Option ℕ) → mode_tree (made.Event l) ≡ event l
unfolding mode_tree field_tree
tree-event l = ap (fold-Mode ModeTree FieldTree mode_layer field_layer) (sym (made.rolls-Event l)) ∙ fold-roll-Mode ModeTree FieldTree mode_layer field_layer (opens.Event l)

pub tree-buffer : (l : Option ℕ) (e : Rc Mode Global) → mode_tree (made.Buffer l e) ≡ buffer l (mode_tree e.value)
unfolding mode_tree field_tree
tree-buffer l e = ap (fold-Mode ModeTree FieldTree mode_layer field_layer) (sym (made.rolls-Buffer l e)) ∙ fold-roll-Mode ModeTree FieldTree mode_layer field_layer (opens.Buffer l e)

pub tree-read : (m : Rc Mode Global) → mode_tree (made.Read m) ≡ read (mode_tree m.value)
unfolding mode_tree field_tree
tree-read m = ap (fold-Mode ModeTree FieldTree mode_layer field_layer) (sym (made.rolls-Read m)) ∙ fold-roll-Mode ModeTree FieldTree mode_layer field_layer (opens.Read m)

pub tree-named : (d : ℕ) (n : Bool) (m : Rc Mode Global) → mode_tree (made.Named d n m) ≡ named d n (mode_tree m.value)
unfolding mode_tree field_tree
tree-named d n m = ap (fold-Mode ModeTree FieldTree mode_layer field_layer) (sym (made.rolls-Named d n m)) ∙ fold-roll-Mode ModeTree FieldTree mode_layer field_layer (opens.Named d n m)

pub tree-field_out : (f : Field) → field_tree f ≡ record { name = (out-Field f).name; mode = mode_tree (out-Field f).mode.value; at = option_map place_tree (out-Field f).at }
unfolding mode_tree field_tree
tree-field_out f = fold_out-Field ModeTree FieldTree mode_layer field_layer f

pub ruleset mode_built = (tree-int, tree-boolean, tree-char, tree-instance, tree-set_of, tree-range, tree-powerset, tree-chars, tree-array, tree-structure, tree-event, tree-buffer, tree-read, tree-named, tree-field_out)
