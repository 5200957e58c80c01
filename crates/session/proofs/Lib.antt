mod OpeningFits
mod BindClaims
