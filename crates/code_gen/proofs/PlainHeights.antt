-- The heights behind instructions that say by themselves what they take and give.
use Rattle.std.proofs.Common.{◌≡◌, ℕ, ◌+◌, ◌-◌, refl}
use Rattle.code_types.specs.declared.code.Code.{Code}
use Rattle.code_types.specs.declared.instr.Instr.{Instr}
use Rattle.code_types.specs.declared.instr.Instr.TheVariants as i
use Rattle.code_types.specs.Places.{pops, pushes}
use Rattle.code_scheme.specs.BodyCode.{height_behind}
use Rattle.expr_gen.specs.Empty.{empty_code}

pub plain_height : (heads : Code) (instr : Instr) (h : ℕ) → (instr ≡ i.Return → ⊥) → ((b : ℕ) → instr ≡ i.Call b → ⊥) → height_behind heads instr h ≡ h - pops empty_code 0 instr + pushes empty_code instr
plain_height heads (i.Push a) h p q = refl
plain_height heads (i.Pop a) h p q = refl
plain_height heads (i.Copy a) h p q = refl
plain_height heads (i.Thing a) h p q = refl
plain_height heads (i.Local a b) h p q = refl
plain_height heads (i.SetLocal a b) h p q = refl
plain_height heads (i.LocalAt a b) h p q = refl
plain_height heads (i.SetLocalAt a b) h p q = refl
plain_height heads (i.Part a b c) h p q = refl
plain_height heads (i.PartAt a b) h p q = refl
plain_height heads (i.Index a b c) h p q = refl
plain_height heads (i.Check a b) h p q = refl
plain_height heads i.Add h p q = refl
plain_height heads i.Sub h p q = refl
plain_height heads i.Mul h p q = refl
plain_height heads i.Div h p q = refl
plain_height heads i.Mod h p q = refl
plain_height heads i.Rem h p q = refl
plain_height heads i.Neg h p q = refl
plain_height heads i.Abs h p q = refl
plain_height heads (i.Succ a) h p q = refl
plain_height heads (i.Pred a) h p q = refl
plain_height heads (i.Same a) h p q = refl
plain_height heads (i.Less a) h p q = refl
plain_height heads i.Not h p q = refl
plain_height heads i.And h p q = refl
plain_height heads i.Or h p q = refl
plain_height heads i.Xor h p q = refl
plain_height heads (i.BitNot a) h p q = refl
plain_height heads i.BitAnd h p q = refl
plain_height heads i.BitOr h p q = refl
plain_height heads i.BitXor h p q = refl
plain_height heads i.BitMinus h p q = refl
plain_height heads i.Within h p q = refl
plain_height heads i.Has h p q = refl
plain_height heads i.Card h p q = refl
plain_height heads i.Least h p q = refl
plain_height heads i.Most h p q = refl
plain_height heads i.Span h p q = refl
plain_height heads (i.Jump a) h p q = refl
plain_height heads (i.Unless a) h p q = refl
plain_height heads (i.Again a) h p q = refl
plain_height heads (i.Call a) h p q = absurd (q a refl)
plain_height heads i.Return h p q = absurd (p refl)
plain_height heads (i.Enter a) h p q = refl
plain_height heads (i.Leave a) h p q = refl
plain_height heads (i.Raise a) h p q = refl
plain_height heads i.This h p q = refl
plain_height heads (i.Read a b c) h p q = refl
plain_height heads (i.Write a b c) h p q = refl
plain_height heads (i.Delay a b) h p q = refl
plain_height heads (i.Continue a) h p q = refl
plain_height heads (i.Send a b c) h p q = refl
plain_height heads (i.Signal a b c d) h p q = refl
plain_height heads (i.Take a b) h p q = refl
plain_height heads (i.Hear a b) h p q = refl
plain_height heads (i.Start a b) h p q = refl
plain_height heads i.PutInt h p q = refl
plain_height heads (i.PutText a) h p q = refl
plain_height heads i.PutLine h p q = refl
plain_height heads i.GetInt h p q = refl
plain_height heads i.Stop h p q = refl
plain_height heads i.Finish h p q = refl
