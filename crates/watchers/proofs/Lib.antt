mod Folds
mod Lines
mod Standing
