-- The names in expressions.
use Rattle.std.specs.Prelude.{List, [], ◌∷◌, ◌++◌, Option, Some, None}
use Rattle.chill_tree.specs.declared.tree.name.Name.{Name}
use Rattle.chill_tree.specs.ExprTree.{ExprTree, ExprNodes, RangeTree, RangeNodes, whole, character, text, this_instance, paren, receive, start, tuple, uniform, name, apply, field, prefixed, binary, no_exprs, more_exprs, alone, between, no_ranges, more_ranges, expr_nodes, range_nodes}
use Rattle.names_model.specs.declared.kind.Need.{Need}
use Rattle.names_model.specs.declared.kind.Need.TheVariants as needs
use Rattle.names_model.specs.declared.part.Mention.{Mention}
use Rattle.names_model.specs.Identifiers.{identifier}
use Rattle.names_model.specs.declared.part.Mention.TheVariants.{Use, Argument}

-- a name where something is needed of it
abbrev pub used : Need → Name → List Mention
used need n = Use (identifier n) need ∷ []

-- the name of a mode before a tuple, where one is written
abbrev pub tuple_mode : Option Name → List Mention
tuple_mode None = []
tuple_mode (Some n) = used needs.Mode n

-- a name that begins a value or a location: it may be the whole argument of what is called
abbrev pub begun : Option Name → Name → List Mention
begun None n = used needs.Value n
begun (Some routine) n = Argument (identifier n) (identifier routine) ∷ []

-- what is called, where it is a name alone
abbrev pub callee_of : ExprTree → Option Name
callee_of (name n) = Some n
callee_of _ = None

abbrev mutual
  -- the names in an expression, which is an argument of what is named or of nothing
  pub mentions_as : Option Name → ExprTree → List Mention
  mentions_as of (whole at n) = []
  mentions_as of (character at n) = []
  mentions_as of (text at n) = []
  mentions_as of (this_instance at) = []
  mentions_as of (paren at e) = mentions_as None e
  mentions_as of (receive at n) = used needs.Location n
  mentions_as of (start at n es) = used needs.Process n ++ mentions_in_each None es
  mentions_as of (tuple at m b rs) = tuple_mode m ++ mentions_in_ranges rs
  mentions_as of (uniform at m b e) = tuple_mode m ++ mentions_as None e
  mentions_as of (name n) = begun of n
  mentions_as of (apply at e es) = mentions_as None e ++ mentions_in_each (callee_of e) es
  mentions_as of (field at e n) = mentions_as None e
  mentions_as of (prefixed at o e) = mentions_as None e
  mentions_as of (binary at l o p r) = mentions_as None l ++ mentions_as None r

  pub mentions_in_each : Option Name → ExprNodes → List Mention
  mentions_in_each of no_exprs = []
  mentions_in_each of (more_exprs e es) = mentions_as of e ++ mentions_in_each of es

  pub mentions_in_range : RangeTree → List Mention
  mentions_in_range (alone e) = mentions_as None e
  mentions_in_range (between l h) = mentions_as None l ++ mentions_as None h

  pub mentions_in_ranges : RangeNodes → List Mention
  mentions_in_ranges no_ranges = []
  mentions_in_ranges (more_ranges r rs) = mentions_in_range r ++ mentions_in_ranges rs

-- the names in an expression that stands by itself
abbrev pub mentions_of : ExprTree → List Mention
mentions_of e = mentions_as None e

-- the names in an expression that may be written
abbrev pub mentions_of_some : Option ExprTree → List Mention
mentions_of_some None = []
mentions_of_some (Some e) = mentions_of e

-- the names in the arguments of what is named
abbrev pub mentions_of_args : Option Name → List ExprTree → List Mention
mentions_of_args of es = mentions_in_each of (expr_nodes es)

-- the names in labels
abbrev pub mentions_of_ranges : List RangeTree → List Mention
mentions_of_ranges rs = mentions_in_ranges (range_nodes rs)
