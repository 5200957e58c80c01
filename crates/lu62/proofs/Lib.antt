mod LengthsFit
mod CallsOnImage
mod Untouched
