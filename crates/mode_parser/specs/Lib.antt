pub mod BaseParts
pub mod LocalParts
pub mod ModeParts
pub mod PlaceParts
