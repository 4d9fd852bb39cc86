-- The root and the novelty of a mode, and whether it is READ.
use Rattle.std.specs.Prelude.{ℕ, Bool, true, false, ◌||◌, Option, Some, None, if◌then◌else◌}
use Rattle.modes.specs.ModeTree.{ModeTree, int, boolean, char, instance, set_of, range, powerset, chars, array, structure, event, buffer, read, named, FieldNodes, no_fields, more_fields}

-- READ, ranges and SYNMODE names are dropped; a NEWMODE name stands before the root of its mode
abbrev pub root_of : ModeTree → ModeTree
root_of (range p l h) = root_of p
root_of (read m) = root_of m
root_of (named d n m) = if n then named d true (root_of m) else root_of m
root_of int = int
root_of boolean = boolean
root_of char = char
root_of instance = instance
root_of (set_of d n) = set_of d n
root_of (powerset m) = powerset m
root_of (chars n) = chars n
root_of (array i e how) = array i e how
root_of (structure fs p) = structure fs p
root_of (event l) = event l
root_of (buffer l e) = buffer l e

-- the definition of the outermost NEWMODE that the mode names; READ, ranges and SYNMODE names are looked through
abbrev pub novelty_of : ModeTree → Option ℕ
novelty_of (range p l h) = novelty_of p
novelty_of (read m) = novelty_of m
novelty_of (named d n m) = if n then Some d else novelty_of m
novelty_of _ = None

-- the mode is READ, or a name of such a mode
abbrev pub read_is : ModeTree → Bool
read_is (read m) = true
read_is (named d n m) = read_is m
read_is _ = false

abbrev mutual
  -- the mode, or that of an element or a field in it, is READ
  pub holds_read : ModeTree → Bool
  holds_read (read m) = true
  holds_read (named d n m) = holds_read m
  holds_read (array i e how) = holds_read e
  holds_read (structure fs p) = hold_read fs
  holds_read int = false
  holds_read boolean = false
  holds_read char = false
  holds_read instance = false
  holds_read (set_of d n) = false
  holds_read (range p l h) = false
  holds_read (powerset m) = false
  holds_read (chars n) = false
  holds_read (event l) = false
  holds_read (buffer l e) = false

  -- that of some field is
  pub hold_read : FieldNodes → Bool
  hold_read no_fields = false
  hold_read (more_fields name m at fs) = holds_read m || hold_read fs
