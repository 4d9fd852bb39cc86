-- The lines of a code.
use Rattle.std.specs.Prelude.{ℕ, suc, ◌-◌, Bool, true, false, List, [], ◌∷◌, ◌++◌, ℤ, length, replicate, codes}
use Rattle.std.specs.Fmt.{decimal, signed_decimal}
use Rattle.std.specs.List.{flat_map}
use Rattle.code_types.specs.declared.instr.Instr.{Instr}
use Rattle.code_types.specs.declared.code.Handler.{Handler}
use Rattle.code_types.specs.declared.code.Code.{Code}
use Rattle.list_texts.specs.declared.instructions.Operands.{Operands}
use Rattle.list_texts.specs.Instructions.{name_of, operands_of, numbers_in}

-- right in five places
abbrev pub address_text : ℕ → List ℕ
address_text address = replicate (5 - length (decimal address)) 32 ++ decimal address

abbrev pub number_text : ℤ → List ℕ
number_text number = codes " " ++ signed_decimal number

-- each behind a blank
abbrev pub numbers_text : List ℤ → List ℕ
numbers_text = flat_map number_text

abbrev pub operands_text : Operands → List ℕ
operands_text operands = numbers_text (numbers_in operands)

-- the address, the name and the operands
abbrev pub instruction_line : ℕ → Instr → List ℕ
instruction_line address instr = address_text address ++ codes " " ++ name_of instr ++ operands_text (operands_of instr) ++ codes "\n"

-- a line for each instruction, from an address on
abbrev pub instruction_lines : ℕ → List Instr → List ℕ
instruction_lines address [] = []
instruction_lines address (instr ∷ instrs) = instruction_line address instr ++ instruction_lines (suc address) instrs

-- on FROM UNTIL HEIGHT TARGET
abbrev pub range_text : Handler → List ℕ
range_text h = codes "on " ++ decimal h.from ++ codes " " ++ decimal h.until ++ codes " " ++ decimal h.height ++ codes " " ++ decimal h.target

abbrev pub exception_text : ℕ → List ℕ
exception_text number = codes " " ++ decimal number

-- the numbers of the exceptions
abbrev pub exceptions_text : List ℕ → List ℕ
exceptions_text = flat_map exception_text

-- the end of a handler's line
abbrev pub end_text : Bool → List ℕ
end_text true = codes " else\n"
end_text false = codes "\n"

abbrev pub handler_line : Handler → List ℕ
handler_line h = range_text h ++ exceptions_text h.names ++ end_text h.otherwise

abbrev pub handler_lines : List Handler → List ℕ
handler_lines = flat_map handler_line

-- the line `code`, the instructions, and the handlers
abbrev pub code_lines : Code → List ℕ
code_lines code = codes "code\n" ++ instruction_lines 0 code.instrs ++ handler_lines code.handlers
