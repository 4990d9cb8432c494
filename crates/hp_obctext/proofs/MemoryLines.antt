-- The words of a checkpoint, one behind the other.
use Rattle.std.proofs.Common.{◌≡◌, ◌≤◌, ℕ, zero, suc, Bool, true, false, not, ◌&&◌, ◌||◌, ◌==◌, List, [], ◌∷◌, ◌++◌, length, drop, ◌⊎◌, inl, inr, if◌then◌else◌, refl, sym, ap, subst, ◌∙◌, append_assoc, append-nil, arith}
use Rattle.std.specs.Prelude.{codes}
use Rattle.std.specs.Str.{bytes_eq}
use Rattle.std.proofs.lemmas.Bool.Decides.{Decides-eqb}
use Rattle.std.proofs.lemmas.Slice.Eq.{bytes_eq-Decides, starts_is}
use Rattle.hp_obc.specs.Form.{is_name}
use Rattle.hp_obctext.specs.MemoryTexts.{Ended, space, newline, is_gap, IsWord, joined, is_value, AreValues, value_lines, heading, checkpoint, IsCheckpointOf}
use Rattle.hp_obctext.specs.MemoryReading.{begins, is_last, is_line}
use Rattle.hp_obctext.specs.MemoryRefusals.{Texts, IsWrong, IsCheckpoint, Lines, Named}
use Rattle.hp_obctext.proofs.MemoryWrong.{After, GoesOn}

pub same_bytes : (w : List ℕ) → bytes_eq w w ≡ true
same_bytes w = (bytes_eq-Decides w w).1 refl

pub are_same : (v w : List ℕ) → bytes_eq v w ≡ true → v ≡ w
are_same v w = (bytes_eq-Decides v w).0

-- ---- lines

-- behind the last line nothing stands
abbrev pub BehindBy : Bool → Texts
BehindBy true es = es ≡ []
BehindBy false es = Lines es

-- what stands behind the word of a line
abbrev pub Behind : List ℕ → Texts
Behind w = BehindBy (is_last w)

abbrev pub Line : Texts
Line = After is_line newline Behind

last_is_no_value : (w : List ℕ) → is_last w ≡ true → is_value w ≡ true → ⊥
last_is_no_value w h k = let e = are_same w (codes "end") h in let q : is_value (codes "end") ≡ true = sym (ap is_value e) ∙ k in no q
  where
    no : is_value (codes "end") ≡ true → ⊥
    no q = cc

pub no_last : (w : List ℕ) → is_value w ≡ true → is_last w ≡ false
no_last w k = by (is_last w) refl
  where
    by : (d : Bool) → is_last w ≡ d → d ≡ false
    by true h = absurd (last_is_no_value w h k)
    by false h = refl

pub or_right : (a b : Bool) → b ≡ true → (a || b) ≡ true
or_right true b h = refl
or_right false b h = h

or_left : (a b : Bool) → a ≡ true → (a || b) ≡ true
or_left true b h = refl
or_left false b h = absurd cc

or_else : (a b : Bool) → (a || b) ≡ true → a ≡ false → b ≡ true
or_else true b h k = absurd cc
or_else false b h k = h

pub line_of : (es : List Ended) → Lines es → Line es
line_of es (ws, vs, e) = subst Line (sym e) (by ws vs)
  where
    by : (ws : List (List ℕ)) → AreValues ws → Line (value_lines ws)
    by [] vs = (refl, refl, refl)
    by (w ∷ ws) vs =
        (or_right (is_last w) (is_value w) vs.0, refl, subst (λ d. BehindBy d (value_lines ws)) (sym (no_last w vs.0)) (ws, vs.1, refl))

pub lines_of : (es : List Ended) → Line es → Lines es
lines_of [] h = absurd h
lines_of ((w, g) ∷ es) h = by (is_last w) refl h.2
  where
    ended : (v : List ℕ) → w ≡ v → (es fs : List Ended) → es ≡ fs → (w, g) ∷ es ≡ (v, newline) ∷ fs
    ended v p es fs q = ap (λ x. (x, g) ∷ es) p ∙ ap (λ x. (v, x) ∷ es) h.1 ∙ ap (λ x. (v, newline) ∷ x) q

    by : (d : Bool) → is_last w ≡ d → BehindBy d es → Lines ((w, g) ∷ es)
    by true e n = ([], tt, ended (codes "end") (are_same w (codes "end") e) es [] n)
    by false e (ws, vs, k) = (w ∷ ws, (or_else (is_last w) (is_value w) h.0 e, vs), ended w refl es (value_lines ws) k)

-- ---- the heading

abbrev pub is_this : List ℕ → List ℕ → Bool
is_this word w = bytes_eq w word

abbrev pub Name : Texts
Name = After is_name newline (λ w. Lines)

abbrev pub Node : Texts
Node = After (is_this (codes "node")) space (λ w. Name)

abbrev pub Version : Texts
Version = After (is_this (codes "1")) newline (λ w. Node)

abbrev pub Heading : Texts
Heading = After (is_this (codes "hept-mem")) space (λ w. Version)

pub name_named : (es : List Ended) → Name es → Named es
name_named [] h = absurd h
name_named ((w, g) ∷ es) h =
    let ls = h.2 in
    (w, ls.0, h.0, ls.1, ap (λ x. (w, x) ∷ es) h.1 ∙ ap (λ x. (w, newline) ∷ x) ls.2)

pub named_name : (es : List Ended) → Named es → Name es
named_name es (name, ws, h, vs, e) = subst Name (sym e) (h, refl, (ws, vs, refl))

pub heading_checkpoint : (es : List Ended) → Heading es → IsCheckpoint es
heading_checkpoint [] h = absurd h
heading_checkpoint (a ∷ []) h = absurd h.2
heading_checkpoint (a ∷ b ∷ []) h = absurd h.2.2
heading_checkpoint ((u, i) ∷ (v, j) ∷ (w, k) ∷ es) h =
    let n = name_named es h.2.2.2 in (
      n.0,
      n.1,
      record {
        node = n.2;
        values = n.3;
        words =
            ap (λ x. (x, i) ∷ (v, j) ∷ (w, k) ∷ es) (are_same u (codes "hept-mem") h.0) ∙ ap (λ x. (codes "hept-mem", x) ∷ (v, j) ∷ (w, k) ∷ es) h.1
            ∙ ap (λ x. (codes "hept-mem", space) ∷ (x, j) ∷ (w, k) ∷ es) (are_same v (codes "1") h.2.0) ∙ ap (λ x. (codes "hept-mem", space) ∷ (codes "1", x) ∷ (w, k) ∷ es) h.2.1
            ∙ ap (λ x. (codes "hept-mem", space) ∷ (codes "1", newline) ∷ (x, k) ∷ es) (are_same w (codes "node") h.2.2.0)
            ∙ ap (λ x. (codes "hept-mem", space) ∷ (codes "1", newline) ∷ (codes "node", x) ∷ es) h.2.2.1
            ∙ ap (λ x. heading ++ x) n.4;
      },
    )

pub checkpoint_heading : (es : List Ended) → IsCheckpoint es → Heading es
checkpoint_heading es (name, ws, c) = subst Heading (sym c.words) (refl, refl, (refl, refl, (refl, refl, (c.node, refl, (ws, c.values, refl)))))

-- ---- which words can go on

pub start : (w word : List ℕ) → begins w word ≡ true → (cut : List ℕ) × (word ≡ w ++ cut)
start w word h = let p = (starts_is Decides-eqb word w (begins w word) refl).0 h in (drop (length w) word, p)

pub starts : (w cut word : List ℕ) → w ++ cut ≡ word → begins w word ≡ false → ⊥
starts w cut word e h = let p : begins w word ≡ true = (starts_is Decides-eqb word w (begins w word) refl).1 cut (sym e) in let q : true ≡ false = sym p ∙ h in cc

pub this_goes : (word : List ℕ) → GoesOn (is_this word) (λ w. begins w word)
this_goes word = record {
  does = λ w h. let s = start w word h in (s.0, ap (is_this word) (sym s.1) ∙ same_bytes word);
  only = λ w cut p o h. starts w cut word (are_same (w ++ cut) word h) o;
  empty = refl;
  some = (word, same_bytes word);
}
