-- A text is refused at the first word with which its words begin no file.
use Rattle.std.proofs.Common.{◌≡◌, ℕ, ◌-◌, ◌≤◌, List, [], ◌∷◌, ◌++◌, length, refl, sym, ap, subst, ◌∙◌, append_assoc, append-nil, arith}
use Rattle.std.proofs.lemmas.List.{length-append}
use Rattle.hp_base.specs.Limits.{most}
use Rattle.hp_base.specs.declared.limit.What.TheVariants as what
use Rattle.hp_base.specs.declared.span.Span.{Span}
use Rattle.hp_obctext.specs.Lexing.{words}
use Rattle.hp_obctext.specs.Outcomes.{Words, done, refused}
use Rattle.hp_obctext.specs.Places.{IsPlaceOf}
use Rattle.hp_obctext.specs.Reading.{file}
use Rattle.hp_obctext.specs.Refusals.{BeginFile, IsDead, IsRefused}
use Rattle.hp_obctext.proofs.CompleteFiles.{file_gets}
use Rattle.hp_obctext.proofs.Courses.{Halts, Course}
use Rattle.hp_obctext.proofs.CourseOfFiles.{IsEnd, file_runs}
use Rattle.hp_obctext.proofs.ReadShapes.{file_read}
use Rattle.hp_obctext.proofs.Sound.{file_spelled}

halted : (us rest : Words) → file us ≡ refused rest → Halts file IsEnd us rest
halted us rest e = subst (Course file IsEnd us) e (file_runs us)

begun : (us rest : Words) (h : Halts file IsEnd us rest) → BeginFile h.front
begun us rest h =
    let all = h.front ++ (h.more ++ []) in
    let read = h.whole [] refl in
    record { more = h.more ++ []; file_is = h.value; whole = (file_read all h.value [] read, file_spelled all h.value [] read) }

number : (us rest : Words) (h : Halts file IsEnd us rest) (n m : ℕ) → n ≡ length us → m ≡ length rest → n - m ≡ length h.front
number us rest h n m p q = let e = ap length h.split ∙ length-append h.front rest in omega (arith, e, p, q)

dead : (us rest : Words) (h : Halts file IsEnd us rest) → IsDead h.front rest
dead us [] h = λ f s.
    let stopped : file h.front ≡ refused [] = ap file (sym (append-nil h.front)) ∙ h.same [] tt in
    let whole : refused [] ≡ done f [] = sym stopped ∙ file_gets f s.0 h.front s.1 in
    cc
dead us (w ∷ behind) h = λ s.
    let all = (h.front ++ w ∷ []) ++ s.more in
    let stopped : file all ≡ refused (w ∷ s.more) = ap file (append_assoc h.front (w ∷ []) s.more) ∙ h.same (w ∷ s.more) refl in
    let whole : refused (w ∷ s.more) ≡ done s.file_is [] = sym stopped ∙ file_gets s.file_is s.whole.0 all s.whole.1 in
    cc

-- a text is refused at the word whose number is how many words were read
pub refused_at : (text : List ℕ) (rest : Words) (n m : ℕ) (span : Span) → length text ≤ most what.Text → file (words text) ≡ refused rest → n ≡ length (words text) → m ≡ length rest → IsPlaceOf text (n - m) span → IsRefused text span
refused_at text rest n m span within e p q place =
    let h = halted (words text) rest e in
    record {
      within = within;
      front = h.front;
      rest = rest;
      split = h.split;
      begun = begun (words text) rest h;
      dead = dead (words text) rest h;
      place = subst (λ i. IsPlaceOf text i span) (number (words text) rest h n m p q) place;
    }
