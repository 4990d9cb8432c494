-- An error that is handed on.
use Rattle.std.proofs.Common.{◌≡◌, sym, subst}
use Rattle.std.specs.Prelude.{IfErr, IsErrAnd, MatchResult, Ok, Err, Result}

pub handed : {A E : Type 0} (P : E → Type 0) (r : Result A E) (e : E) → IsErrAnd r (λ f. f ≡ e) → P e → IfErr r P
handed P (Ok q) e h p = tt
handed P (Err f) e h p = subst P (sym h) p

pub handed_match : {A E : Type 0} (G : A → Type 0) (P : E → Type 0) (r : Result A E) (e : E) → IsErrAnd r (λ f. f ≡ e) → P e → MatchResult r G P
handed_match G P (Ok q) e h p = absurd h
handed_match G P (Err f) e h p = subst P (sym h) p
