pub mod Literal
pub mod LiteralLaws
pub mod LimitLaws
