-- The word that breaks a rule of form.
use Rattle.std.proofs.Common.{◌≡◌, ◌≤◌, ℕ, suc, ◌+◌, Bool, true, false, if◌then◌else◌, List, [], ◌∷◌, length, refl, sym, ap, subst, ◌∙◌, arith}
use Rattle.std.proofs.lemmas.List.{length-append}
use Rattle.hp_base.specs.Limits.{most}
use Rattle.hp_base.specs.declared.limit.What.TheVariants as what
use Rattle.hp_base.specs.declared.span.Span.{Span}
use Rattle.hp_obctext.specs.Answers.{IsFileOf, BreaksForm}
use Rattle.hp_obctext.specs.Files.{File, file_words}
use Rattle.hp_base.specs.Bytes.{is_blank}
use Rattle.hp_obctext.specs.Lexing.{goes_on, nothing, pieces, words}
use Rattle.hp_obctext.specs.Outcomes.{Words}
use Rattle.hp_obctext.specs.Places.{IsPlaceOf}
use Rattle.hp_obctext.specs.Rules.{in_file, BreaksAt}
use Rattle.hp_obctext.specs.Spells.{Spell}
use Rattle.hp_obctext.specs.Words.{Word}
use Rattle.hp_obctext.proofs.Aligned.{file_long}

as_long : (us : Words) (ws : List Word) → Spell us ws → length us ≡ length ws
as_long [] [] h = refl
as_long (u ∷ us) [] h = absurd cc
as_long [] (w ∷ ws) h = absurd h
as_long (u ∷ us) (w ∷ ws) h = ap suc (as_long us ws h.1)

abbrev many : List ℕ × Words → ℕ
many p = length p.1

few_by : (on blank : Bool) (b : ℕ) (text : List ℕ) (p q r : List ℕ × Words) → length p.1 ≤ length text → length q.1 ≤ length text → length r.1 ≤ length text →
    many (if on then (b ∷ p.0, p.1) else (if blank then ([], q.1) else ([], (b ∷ r.0) ∷ r.1))) ≤ suc (length text)
few_by true blank b text p q r h k l = omega (arith, h)
few_by false true b text p q r h k l = omega (arith, k)
few_by false false b text p q r h k l = omega (arith, l)

few_pieces : (on : ℕ → Bool) (text : List ℕ) → length (pieces on text).1 ≤ length text
few_pieces on [] = omega arith
few_pieces on (b ∷ text) = few_by (on b) (is_blank b) b text (pieces on text) (pieces nothing text) (pieces (goes_on b) text) (few_pieces on text) (few_pieces nothing text) (few_pieces (goes_on b) text)

pub breaks_form : (text : List ℕ) (f : File) (number : ℕ) (span : Span) → length text ≤ most what.Text → IsFileOf text f → BreaksAt (in_file f) number → IsPlaceOf text number span → BreaksForm text span
breaks_form text f number span h spelled breach place =
    let aligned : length (in_file f) ≡ length (words text) = file_long f spelled.0 ∙ sym (as_long (words text) (file_words f) spelled.1) in
    let few = few_pieces nothing text in
    let longer : length (in_file f) ≡ length breach.front + length (false ∷ breach.rest) = ap length breach.split ∙ length-append breach.front (false ∷ breach.rest) in
    let small : length text ≤ 67108864 = h in
    let front_is : number ≡ length breach.front = let e = breach.number_is in omega (arith, e, aligned, few, longer, small) in
    record {
      within = h;
      file_is = f;
      spelled = spelled;
      front = breach.front;
      rest = breach.rest;
      split = breach.split;
      kept = breach.kept;
      aligned = aligned;
      place = subst (λ i. IsPlaceOf text i span) front_is place;
    }
