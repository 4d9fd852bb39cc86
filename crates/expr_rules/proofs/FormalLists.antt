-- What calls and messages are to be given.
use Rattle.std.proofs.Common.{append-nil, append_assoc}
use Rattle.std.proofs.lemmas.List.{map-append}
use Rattle.std.proofs.lemmas.List.Concat.{flat_map-cons}

pub ruleset formals = (map-append, append-nil, append_assoc)
