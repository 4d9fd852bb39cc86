use Rattle.table_laws.proofs.laws.constants_frame.Goals as goal
use Rattle.table_laws.proofs.ExprFrames.{class_frame}
use Rattle.table_laws.proofs.KnownFrames.{form_frame}
use Rattle.table_laws.proofs.ConstantFrames.{constant_frame, told_constant_frame}

pub returns : goal.returns
returns c = record { class = class_frame; form = form_frame; value = constant_frame; told = told_constant_frame }
