-- A text is that of one file, and its machines are found.
use Rattle.std.proofs.Common.{◌≡◌, ◌≤◌, ℕ, suc, Bool, false, List, [], ◌∷◌, ◌++◌, length, refl, sym, ap, subst, ◌∙◌}
use Rattle.hp_base.specs.Limits.{most}
use Rattle.hp_base.specs.declared.limit.What.TheVariants as what
use Rattle.hp_base.specs.declared.span.Span.{Span}
use Rattle.hp_obc.specs.Machines.{Obc}
use Rattle.hp_obctext.specs.Answers.{IsFileOf, IsTextOf, BreaksForm}
use Rattle.hp_obctext.specs.Files.{File}
use Rattle.hp_obctext.specs.Lexing.{words}
use Rattle.hp_obctext.specs.Machines.{machines_of}
use Rattle.hp_obctext.specs.Outcomes.{Words, done, refused}
use Rattle.hp_obctext.specs.Reading.{file}
use Rattle.hp_obctext.specs.Places.{IsPlaceOf}
use Rattle.hp_obctext.specs.Rules.{in_file, AllTrue, BreaksAt}
use Rattle.hp_obctext.proofs.CompleteFiles.{file_gets}
use Rattle.hp_obctext.proofs.OnePlace.{one_place}
use Rattle.hp_obctext.proofs.ReadShapes.{file_read}
use Rattle.hp_obctext.proofs.Sound.{file_spelled}

-- what is read is the file of the text
pub is_file_of : (text : List ℕ) (f : File) (rest : Words) → file (words text) ≡ done f rest → IsFileOf text f
is_file_of text f rest e = (file_read (words text) f rest e, file_spelled (words text) f rest e)

-- it is the only one
pub same_file : (text : List ℕ) (f g : File) → IsFileOf text f → IsFileOf text g → f ≡ g
same_file text f g h k =
    let both : done f [] ≡ done g [] = sym (file_gets f h.0 (words text) h.1) ∙ file_gets g k.0 (words text) k.1 in cc

-- the text of a file is not refused
pub not_refused : (text : List ℕ) (f : File) (rest : Words) → IsFileOf text f → file (words text) ≡ refused rest → ⊥
not_refused text f rest h e = let both : done f [] ≡ refused rest = sym (file_gets f h.0 (words text) h.1) ∙ e in cc

pub text_of : (text : List ℕ) (f : File) (o : Obc) → length text ≤ most what.Text → IsFileOf text f → AllTrue (in_file f) → o ≡ machines_of f → IsTextOf text o
text_of text f o h s k e = record { within = h; file_is = f; spelled = s; kept = k; machines = e }

-- a text has one file of machines
pub same_machines : (text : List ℕ) (f : File) (p o : Obc) → IsFileOf text f → p ≡ machines_of f → IsTextOf text o → p ≡ o
same_machines text f p o s e t = e ∙ ap machines_of (same_file text f t.file_is s t.spelled) ∙ sym t.machines

none_breaks : (front rest : List Bool) → AllTrue (front ++ false ∷ rest) → ⊥
none_breaks [] rest h = let e = h.0 in cc
none_breaks (v ∷ front) rest h = none_breaks front rest h.1

-- a file that keeps the rules has no word that breaks one
pub not_broken : (text : List ℕ) (f : File) (number : ℕ) (o : Obc) → IsFileOf text f → BreaksAt (in_file f) number → IsTextOf text o → ⊥
not_broken text f number o s b t =
    none_breaks b.front b.rest (subst AllTrue (ap in_file (same_file text t.file_is f t.spelled s) ∙ b.split) t.kept)

-- ---- the first word that breaks a rule

heads_same : (u v : Bool) (us vs : List Bool) → u ∷ us ≡ v ∷ vs → (u ≡ v) × (us ≡ vs)
heads_same u v us vs e = (cc, cc)

first_false : (f1 r1 f2 r2 : List Bool) → f1 ++ false ∷ r1 ≡ f2 ++ false ∷ r2 → AllTrue f1 → AllTrue f2 → length f1 ≡ length f2
first_false [] r1 [] r2 e h k = refl
first_false [] r1 (v ∷ f2) r2 e h k = absurd (let same = (heads_same false v r1 (f2 ++ false ∷ r2) e).0 in let true_is = k.0 in cc)
first_false (v ∷ f1) r1 [] r2 e h k = absurd (let same = (heads_same v false (f1 ++ false ∷ r1) r2 e).0 in let true_is = h.0 in cc)
first_false (v ∷ f1) r1 (u ∷ f2) r2 e h k = ap suc (first_false f1 r1 f2 r2 (heads_same v u (f1 ++ false ∷ r1) (f2 ++ false ∷ r2) e).1 h.1 k.1)

-- a text breaks the rules at one place
pub one_breach : (text : List ℕ) (p q : Span) → BreaksForm text p → BreaksForm text q → p ≡ q
one_breach text p q a b =
    let same : in_file a.file_is ≡ in_file b.file_is = ap in_file (same_file text a.file_is b.file_is a.spelled b.spelled) in
    let front = first_false a.front a.rest b.front b.rest (sym a.split ∙ same ∙ b.split) a.kept b.kept in
    one_place text (length b.front) p q (subst (λ n. IsPlaceOf text n p) front a.place) b.place

-- a file that keeps the rules breaks none
pub keeps_all : (text : List ℕ) (f : File) (p : Span) → IsFileOf text f → AllTrue (in_file f) → BreaksForm text p → ⊥
keeps_all text f p s k b = none_breaks b.front b.rest (subst AllTrue (ap in_file (same_file text f b.file_is s b.spelled) ∙ b.split) k)
