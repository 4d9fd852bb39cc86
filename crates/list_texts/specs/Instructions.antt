-- The name and the operands of each instruction.
use Rattle.std.specs.Prelude.{ℕ, Bool, true, false, List, [], ◌∷◌, ℤ, pos, codes}
use Rattle.code_types.specs.declared.instr.Instr.{Instr}
use Rattle.code_types.specs.declared.instr.Instr.TheVariants as made
use Rattle.list_texts.specs.declared.instructions.Operands.{Operands}
use Rattle.list_texts.specs.declared.instructions.Operands.TheVariants as operands

abbrev pub name_of : Instr → List ℕ
name_of (made.Push k) = codes "Push"
name_of (made.Pop a) = codes "Pop"
name_of (made.Copy a) = codes "Copy"
name_of (made.Thing a) = codes "Thing"
name_of (made.Local a b) = codes "Local"
name_of (made.SetLocal a b) = codes "SetLocal"
name_of (made.LocalAt a b) = codes "LocalAt"
name_of (made.SetLocalAt a b) = codes "SetLocalAt"
name_of (made.Part a b c) = codes "Part"
name_of (made.PartAt a b) = codes "PartAt"
name_of (made.Index l u s) = codes "Index"
name_of (made.Check l u) = codes "Check"
name_of made.Add = codes "Add"
name_of made.Sub = codes "Sub"
name_of made.Mul = codes "Mul"
name_of made.Div = codes "Div"
name_of made.Mod = codes "Mod"
name_of made.Rem = codes "Rem"
name_of made.Neg = codes "Neg"
name_of made.Abs = codes "Abs"
name_of (made.Succ u) = codes "Succ"
name_of (made.Pred l) = codes "Pred"
name_of (made.Same a) = codes "Same"
name_of (made.Less a) = codes "Less"
name_of made.Not = codes "Not"
name_of made.And = codes "And"
name_of made.Or = codes "Or"
name_of made.Xor = codes "Xor"
name_of (made.BitNot a) = codes "BitNot"
name_of made.BitAnd = codes "BitAnd"
name_of made.BitOr = codes "BitOr"
name_of made.BitXor = codes "BitXor"
name_of made.BitMinus = codes "BitMinus"
name_of made.Within = codes "Within"
name_of made.Has = codes "Has"
name_of made.Card = codes "Card"
name_of made.Least = codes "Least"
name_of made.Most = codes "Most"
name_of made.Span = codes "Span"
name_of (made.Jump a) = codes "Jump"
name_of (made.Unless a) = codes "Unless"
name_of (made.Again a) = codes "Again"
name_of (made.Call a) = codes "Call"
name_of made.Return = codes "Return"
name_of (made.Enter a) = codes "Enter"
name_of (made.Leave a) = codes "Leave"
name_of (made.Raise a) = codes "Raise"
name_of made.This = codes "This"
name_of (made.Read a b c) = codes "Read"
name_of (made.Write a b c) = codes "Write"
name_of (made.Delay a b) = codes "Delay"
name_of (made.Continue a) = codes "Continue"
name_of (made.Send a b c) = codes "Send"
name_of (made.Signal s c to p) = codes "Signal"
name_of (made.Take n otherwise) = codes "Take"
name_of (made.Hear n otherwise) = codes "Hear"
name_of (made.Start a b) = codes "Start"
name_of made.PutInt = codes "PutInt"
name_of (made.PutText a) = codes "PutText"
name_of made.PutLine = codes "PutLine"
name_of made.GetInt = codes "GetInt"
name_of made.Stop = codes "Stop"
name_of made.Finish = codes "Finish"

abbrev pub flag : Bool → ℤ
flag true = pos 1
flag false = pos 0

-- the operands in the order in which they are written, flags as 0 and 1
abbrev pub operands_of : Instr → Operands
operands_of (made.Push k) = operands.One k
operands_of (made.Pop a) = operands.One (pos a)
operands_of (made.Copy a) = operands.One (pos a)
operands_of (made.Thing a) = operands.One (pos a)
operands_of (made.Local a b) = operands.Two (pos a) (pos b)
operands_of (made.SetLocal a b) = operands.Two (pos a) (pos b)
operands_of (made.LocalAt a b) = operands.Two (pos a) (pos b)
operands_of (made.SetLocalAt a b) = operands.Two (pos a) (pos b)
operands_of (made.Part a b c) = operands.Three (pos a) (pos b) (pos c)
operands_of (made.PartAt a b) = operands.Two (pos a) (pos b)
operands_of (made.Index l u s) = operands.Three l u (pos s)
operands_of (made.Check l u) = operands.Two l u
operands_of made.Add = operands.None
operands_of made.Sub = operands.None
operands_of made.Mul = operands.None
operands_of made.Div = operands.None
operands_of made.Mod = operands.None
operands_of made.Rem = operands.None
operands_of made.Neg = operands.None
operands_of made.Abs = operands.None
operands_of (made.Succ u) = operands.One u
operands_of (made.Pred l) = operands.One l
operands_of (made.Same a) = operands.One (pos a)
operands_of (made.Less a) = operands.One (pos a)
operands_of made.Not = operands.None
operands_of made.And = operands.None
operands_of made.Or = operands.None
operands_of made.Xor = operands.None
operands_of (made.BitNot a) = operands.One (pos a)
operands_of made.BitAnd = operands.None
operands_of made.BitOr = operands.None
operands_of made.BitXor = operands.None
operands_of made.BitMinus = operands.None
operands_of made.Within = operands.None
operands_of made.Has = operands.None
operands_of made.Card = operands.None
operands_of made.Least = operands.None
operands_of made.Most = operands.None
operands_of made.Span = operands.None
operands_of (made.Jump a) = operands.One (pos a)
operands_of (made.Unless a) = operands.One (pos a)
operands_of (made.Again a) = operands.One (pos a)
operands_of (made.Call a) = operands.One (pos a)
operands_of made.Return = operands.None
operands_of (made.Enter a) = operands.One (pos a)
operands_of (made.Leave a) = operands.One (pos a)
operands_of (made.Raise a) = operands.One (pos a)
operands_of made.This = operands.None
operands_of (made.Read a b c) = operands.Three (pos a) (pos b) (pos c)
operands_of (made.Write a b c) = operands.Three (pos a) (pos b) (pos c)
operands_of (made.Delay a b) = operands.Two (pos a) (pos b)
operands_of (made.Continue a) = operands.One (pos a)
operands_of (made.Send a b c) = operands.Three (pos a) (pos b) (pos c)
operands_of (made.Signal s c to p) = operands.Four (pos s) (pos c) (flag to) (pos p)
operands_of (made.Take n otherwise) = operands.Two (pos n) (flag otherwise)
operands_of (made.Hear n otherwise) = operands.Two (pos n) (flag otherwise)
operands_of (made.Start a b) = operands.Two (pos a) (pos b)
operands_of made.PutInt = operands.None
operands_of (made.PutText a) = operands.One (pos a)
operands_of made.PutLine = operands.None
operands_of made.GetInt = operands.None
operands_of made.Stop = operands.None
operands_of made.Finish = operands.None

abbrev pub numbers_in : Operands → List ℤ
numbers_in operands.None = []
numbers_in (operands.One a) = a ∷ []
numbers_in (operands.Two a b) = a ∷ b ∷ []
numbers_in (operands.Three a b c) = a ∷ b ∷ c ∷ []
numbers_in (operands.Four a b c d) = a ∷ b ∷ c ∷ d ∷ []
