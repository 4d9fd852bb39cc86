pub mod WellElaborated
