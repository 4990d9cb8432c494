pub mod WiresLemmas
pub mod WiretypedLemmas
pub mod SettledLemmas
pub mod MirrorLemmas
pub mod AbstractedLemmas
pub mod ReadyGamesLemmas
pub mod ForcedLemmas
pub mod GuaranteedLemmas
