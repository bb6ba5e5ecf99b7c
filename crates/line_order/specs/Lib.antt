-- What the contracts cite.
pub mod Keywords
pub mod Places
