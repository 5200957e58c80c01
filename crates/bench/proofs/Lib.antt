mod CallLeaves
mod Stepping
