-- A text is refused at one place, and then its words are those of no file.
use Rattle.std.proofs.Common.{◌≡◌, ℕ, List, [], ◌∷◌, ◌++◌, length, suc, Result, Ok, Err, ◌⊎◌, inl, inr, refl, sym, ap, subst, ◌∙◌, append_assoc, append-nil}
use Rattle.std.specs.Prelude.{IsErrAnd}
use Rattle.hp_base.specs.declared.span.Span.{Span}
use Rattle.hp_obctext.specs.declared.error.ObcErr.{ObcErr}
use Rattle.hp_obctext.specs.declared.error.ObcErr.TheVariants as error
use Rattle.hp_obctext.specs.Files.{File}
use Rattle.hp_obctext.specs.Lexing.{words}
use Rattle.hp_obctext.specs.Outcomes.{Words}
use Rattle.hp_obctext.specs.Places.{IsPlaceOf}
use Rattle.hp_obctext.specs.Refusals.{SpellFile, BeginFile, IsDead, IsRefused}
use Rattle.hp_obctext.proofs.OnePlace.{one_place}

-- what stands in front of words that begin a file begins one
fewer : (us more : Words) → BeginFile (us ++ more) → BeginFile us
fewer us more b = record { more = more ++ b.more; file_is = b.file_is; whole = subst (λ z. SpellFile z b.file_is) (append_assoc us more b.more) b.whole }

-- Words that begin a file are no longer than those behind which it is dead.
no_longer : (us front rest more : Words) (w : List ℕ) → IsDead front rest → rest ≡ w ∷ more → us ≡ front ++ w ∷ [] → BeginFile us → ⊥
no_longer us front [] more w d e p b = cc
no_longer us front (v ∷ behind) more w d e p b = let same : w ≡ v = cc in d (subst BeginFile (p ∙ ap (λ x. front ++ x ∷ []) same) b)

same_length : (pre f1 r1 f2 r2 : Words) → f1 ++ r1 ≡ f2 ++ r2 → BeginFile (pre ++ f1) → BeginFile (pre ++ f2) → IsDead (pre ++ f1) r1 → IsDead (pre ++ f2) r2 → length f1 ≡ length f2
same_length pre [] r1 [] r2 e b1 b2 d1 d2 = refl
same_length pre [] r1 (v ∷ f2) r2 e b1 b2 d1 d2 =
    absurd (no_longer (pre ++ v ∷ []) (pre ++ []) r1 (f2 ++ r2) v d1 e (ap (λ z. z ++ v ∷ []) (sym (append-nil pre))) (fewer (pre ++ v ∷ []) f2 (subst BeginFile (sym (append_assoc pre (v ∷ []) f2)) b2)))
same_length pre (v ∷ f1) r1 [] r2 e b1 b2 d1 d2 =
    absurd (no_longer (pre ++ v ∷ []) (pre ++ []) r2 (f1 ++ r1) v d2 (sym e) (ap (λ z. z ++ v ∷ []) (sym (append-nil pre))) (fewer (pre ++ v ∷ []) f1 (subst BeginFile (sym (append_assoc pre (v ∷ []) f1)) b1)))
same_length pre (u ∷ f1) r1 (v ∷ f2) r2 e b1 b2 d1 d2 =
    let head : v ≡ u = cc in
    let tail : f1 ++ r1 ≡ f2 ++ r2 = cc in
    let one = sym (append_assoc pre (u ∷ []) f1) in
    let two = ap (λ x. pre ++ x ∷ f2) head ∙ sym (append_assoc pre (u ∷ []) f2) in
    ap suc (same_length (pre ++ u ∷ []) f1 r1 f2 r2 tail (subst BeginFile one b1) (subst BeginFile two b2) (subst (λ z. IsDead z r1) one d1) (subst (λ z. IsDead z r2) two d2))

-- a text is refused at one place
pub one_refusal : (text : List ℕ) (p q : Span) → IsRefused text p → IsRefused text q → p ≡ q
one_refusal text p q a b =
    let same = same_length [] a.front a.rest b.front b.rest (sym a.split ∙ b.split) a.begun b.begun a.dead b.dead in
    one_place text (length b.front) p q (subst (λ n. IsPlaceOf text n p) same a.place) b.place

no_file_by : (us front rest : Words) → us ≡ front ++ rest → IsDead front rest → (f : File) → SpellFile us f → ⊥
no_file_by us front [] e d f s = d f (subst (λ z. SpellFile z f) (e ∙ append-nil front) s)
no_file_by us front (w ∷ behind) e d f s = d (record { more = behind; file_is = f; whole = subst (λ z. SpellFile z f) (e ∙ sym (append_assoc front (w ∷ []) behind)) s })

-- the words of a text that is refused are those of no file
pub no_file : (text : List ℕ) (p : Span) (f : File) → IsRefused text p → SpellFile (words text) f → ⊥
no_file text p f r s = no_file_by (words text) r.front r.rest r.split r.dead f s

-- what is answered where an error is passed on
pub passed_on : {A : Type 0} (result : Result A ObcErr) (e : ObcErr) (span : Span) → IsErrAnd result (λ f. f ≡ e) → (e ≡ error.Syntax span) ⊎ (e ≡ error.OutOfMemory) → (result ≡ Err (error.Syntax span)) ⊎ (result ≡ Err error.OutOfMemory)
passed_on (Ok x) e span h k = absurd h
passed_on (Err f) e span h (inl k) = inl (ap Err (h ∙ k))
passed_on (Err f) e span h (inr k) = inr (ap Err (h ∙ k))
