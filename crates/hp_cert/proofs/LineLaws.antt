-- Lines by their numbers, and what they read.
use Rattle.std.proofs.Common.{◌≡◌, ℕ, zero, suc, ◌+◌, ◌-◌, ◌<◌, ◌≤◌, ◌==◌, Bool, true, false, if◌then◌else◌, List, [], ◌∷◌, length, map, All, slice_get, slice_index_or, get_or, Option, Some, None, refl, sym, ap, subst, ◌∙◌, arith}
use Rattle.std.specs.Option.{option_map}
use Rattle.std.proofs.lemmas.Option.{slice_get-map, slice_get-get_or, slice_get_within, get_or_from_slice_get}
use Rattle.hp_boolx.specs.Search.{Bits}
use Rattle.hp_boolx.specs.Solved.{rank}
use Rattle.hp_cert.specs.Certtext.Certificates.{IsShort, AreLines}
use Rattle.hp_diagram.specs.Diagrams.{Diagrams, branch_at, path_end, valuation}
use Rattle.hp_diagram.specs.declared.reference.Branch.{Branch}
use Rattle.hp_diagram.proofs.Paths.{AreBelow, path_end-child, path_end-leaf}
use Rattle.hp_quant.specs.declared.line.Line.{Line}
use Rattle.hp_quant.specs.Lines.{node_of, line_function, MayBeImported}
use Rattle.hp_cert.specs.Proving.{Reaches, ReadsBelow, set_of}

-- lines from a number on, by their places
pub lines_at : (n : ℕ) (ls : List Line) → AreLines n ls → (i : ℕ) (l : Line) → slice_get ls i ≡ Some l → IsShort l.var × (l.low < n + i) × (l.high < n + i)
lines_at n [] h i l e = absurd (cc)
lines_at n (x ∷ ls) h zero l e =
    let same : x ≡ l = cc in
    let low = h.1.0 in let high = h.2.0 in let var = h.0 in
    let P : Line → Type 0 = λ l. IsShort l.var × (l.low < n + 0) × (l.high < n + 0) in
    subst P same (var, omega (arith, low), omega (arith, high))
lines_at n (x ∷ ls) h (suc i) l e =
    let r = lines_at (suc n) ls h.3 i l e in
    let low = r.1 in let high = r.2 in
    (r.0, omega (arith, low), omega (arith, high))

pub below_line : (ls : List Line) → AreLines 2 ls → (i : ℕ) (l : Line) → slice_get ls i ≡ Some l → (l.low < i + 2) × (l.high < i + 2)
below_line ls h i l e = let r = lines_at 2 ls h i l e in let low = r.1 in let high = r.2 in (omega (arith, low), omega (arith, high))

-- such lines may be imported into a table with their variables
pub may_be : (t : Diagrams) (ls : List Line) → AreLines 2 ls → All (λ (l : Line). l.var < t.vars) ls → MayBeImported t ls
may_be t ls h vars = record {
  var = λ i l e. let w = slice_get_within ls i l e in let same : get_or ls i l ≡ l = get_or_from_slice_get ls i l l e in subst (λ (x : Line). x.var < t.vars) same (vars i l w);
  low = λ i l e. (below_line ls h i l e).0;
  high = λ i l e. (below_line ls h i l e).1;
}

-- ---- the function of a line

nodes_below : (ls : List Line) → AreLines 2 ls → AreBelow (map node_of ls)
nodes_below ls h zero b e = absurd (cc)
nodes_below ls h (suc zero) b e = absurd (cc)
nodes_below ls h (suc (suc i)) b e = by (slice_get ls i) refl
  where
    by : (o : Option Line) → slice_get ls i ≡ o → (b.low.index < suc (suc i)) × (b.high.index < suc (suc i))
    by None k = let none : None ≡ Some b = sym (slice_get-map node_of ls i ∙ ap (option_map node_of) k) ∙ e in absurd (cc)
    by (Some l) k =
        let some : Some (node_of l) ≡ Some b = sym (slice_get-map node_of ls i ∙ ap (option_map node_of) k) ∙ e in
        let same : node_of l ≡ b = cc in
        let low : l.low ≡ b.low.index = ap (λ (c : Branch). c.low.index) same in
        let high : l.high ≡ b.high.index = ap (λ (c : Branch). c.high.index) same in
        let below = below_line ls h i l k in
        let p = below.0 in let q = below.1 in
        (omega (arith, p, low), omega (arith, q, high))

pub function_line : (ls : List Line) → AreLines 2 ls → (i : ℕ) (l : Line) → slice_get ls i ≡ Some l → (v : ℕ → Bool) →
    line_function ls (suc (suc i)) v ≡ (if v l.var then line_function ls l.high v else line_function ls l.low v)
function_line ls h i l e v =
    let at : branch_at (map node_of ls) (suc (suc i)) ≡ Some (node_of l) = slice_get-map node_of ls i ∙ ap (option_map node_of) e in
    path_end-child (map node_of ls) (nodes_below ls h) v (suc (suc i)) (node_of l) at
    ∙ (elim (v l.var) as (λ c. path_end (if c then (node_of l).high else (node_of l).low).index (map node_of ls) v (if c then (node_of l).high else (node_of l).low).index ≡ (if c then line_function ls l.high v else line_function ls l.low v)) [ true ↦ refl | false ↦ refl ])

pub function_zero : (ls : List Line) (v : ℕ → Bool) → line_function ls 0 v ≡ false
function_zero ls v = path_end-leaf 0 (map node_of ls) v 0 refl

pub function_one : (ls : List Line) (v : ℕ → Bool) → line_function ls 1 v ≡ true
function_one ls v = path_end-leaf 1 (map node_of ls) v 1 refl

-- the line of a number
pub line_of : (ls : List Line) (i : ℕ) → i < length ls → (l : Line) × (slice_get ls i ≡ Some l)
line_of [] i h = absurd (omega (arith, h))
line_of (x ∷ ls) zero h = (x, refl)
line_of (x ∷ ls) (suc i) h = line_of ls i (omega (arith, h))

-- a function depends on what it reads alone
pub reads_alone : (ls : List Line) → AreLines 2 ls → (bound : ℕ) (v w : ℕ → Bool) → ((x : ℕ) → x < bound → v x ≡ w x) → (most r : ℕ) → r ≤ most → r < length ls + 2 → ReadsBelow ls bound r → line_function ls r v ≡ line_function ls r w
reads_alone ls h bound v w same most zero k within reads = function_zero ls v ∙ sym (function_zero ls w)
reads_alone ls h bound v w same most (suc zero) k within reads = function_one ls v ∙ sym (function_one ls w)
reads_alone ls h bound v w same zero (suc (suc i)) k within reads = absurd (omega (arith, k))
reads_alone ls h bound v w same (suc most) (suc (suc i)) k within reads =
    let l = line_of ls i (omega (arith, within)) in
    let below = below_line ls h i l.0 l.1 in
    let low = below.0 in let high = below.1 in
    let reads_low : ReadsBelow ls bound l.0.low = λ j x r e. reads j x (Reaches.by_low l.1 r) e in
    let reads_high : ReadsBelow ls bound l.0.high = λ j x r e. reads j x (Reaches.by_high l.1 r) e in
    let var = same l.0.var (reads i l.0 Reaches.here l.1) in
    let in_low = reads_alone ls h bound v w same most l.0.low (omega (arith, low, k)) (omega (arith, low, within)) reads_low in
    let in_high = reads_alone ls h bound v w same most l.0.high (omega (arith, high, k)) (omega (arith, high, within)) reads_high in
    function_line ls h i l.0 l.1 v
    ∙ ap (λ (b : Bool). if b then line_function ls l.0.high v else line_function ls l.0.low v) var
    ∙ ap (λ (b : Bool). if w l.0.var then b else line_function ls l.0.low v) in_high
    ∙ ap (λ (b : Bool). if w l.0.var then line_function ls l.0.high w else b) in_low
    ∙ sym (function_line ls h i l.0 l.1 w)

-- ---- lines as they are walked

-- a line that stands for none
abbrev pub none : Line
none = record { var = 0; low = 0; high = 0 }

pub line_at : (ls : List Line) (i : ℕ) → i < length ls → slice_get ls i ≡ Some (get_or ls i none)
line_at ls i h = slice_get-get_or ls i none h

two_less : (at : ℕ) → 2 ≤ at → suc (suc (at - 2)) ≡ at
two_less at h = omega (arith, h)

pub step_high : (ls : List Line) → AreLines 2 ls → (at : ℕ) (values : Bits) → 2 ≤ at → at < length ls + 2 → slice_index_or values (get_or ls (at - 2) none).var false ≡ true →
    ((get_or ls (at - 2) none).high < at) × (set_of ls (get_or ls (at - 2) none).high values ≡ set_of ls at values)
step_high ls h at values some within e =
    let i = at - 2 in
    let l = get_or ls i none in
    let less : i < length ls = omega (arith, some, within) in
    let below = (below_line ls h i l (line_at ls i less)).1 in (
      omega (arith, below, some),
      sym (ap (λ n. line_function ls n (valuation values)) (sym (two_less at some)) ∙ function_line ls h i l (line_at ls i less) (valuation values)
          ∙ ap (λ (b : Bool). if b then line_function ls l.high (valuation values) else line_function ls l.low (valuation values)) e),
    )

pub step_low : (ls : List Line) → AreLines 2 ls → (at : ℕ) (values : Bits) → 2 ≤ at → at < length ls + 2 → slice_index_or values (get_or ls (at - 2) none).var false ≡ false →
    ((get_or ls (at - 2) none).low < at) × (set_of ls (get_or ls (at - 2) none).low values ≡ set_of ls at values)
step_low ls h at values some within e =
    let i = at - 2 in
    let l = get_or ls i none in
    let less : i < length ls = omega (arith, some, within) in
    let below = (below_line ls h i l (line_at ls i less)).0 in (
      omega (arith, below, some),
      sym (ap (λ n. line_function ls n (valuation values)) (sym (two_less at some)) ∙ function_line ls h i l (line_at ls i less) (valuation values)
          ∙ ap (λ (b : Bool). if b then line_function ls l.high (valuation values) else line_function ls l.low (valuation values)) e),
    )

pub end_value : (ls : List Line) (at : ℕ) (values : Bits) → at < 2 → (at == 1) ≡ set_of ls at values
end_value ls zero values h = sym (function_zero ls (valuation values))
end_value ls (suc zero) values h = sym (function_one ls (valuation values))
end_value ls (suc (suc n)) values h = absurd (omega (arith, h))

-- the last of some ranks
pub last_rank : (ls : List Line) (ranks : List ℕ) (state : Bits) → 1 ≤ length ranks → set_of ls (get_or ranks (length ranks - 1) 0) state ≡ rank (map (set_of ls) ranks) (length ranks) state
last_rank ls ranks state h = ap (λ n. set_of ls (get_or ranks n 0) state) refl ∙ by (length ranks - 1) ranks (omega (arith, h)) ∙ ap (λ n. rank (map (set_of ls) ranks) n state) (one (length ranks) h)
  where
    one : (n : ℕ) → 1 ≤ n → suc (n - 1) ≡ n
    one n h = omega (arith, h)

    by : (k : ℕ) (rs : List ℕ) → k < length rs → set_of ls (get_or rs k 0) state ≡ rank (map (set_of ls) rs) (suc k) state
    by k [] l = absurd (omega (arith, l))
    by zero (r ∷ rs) l = refl
    by (suc k) (r ∷ rs) l = by k rs (omega (arith, l))
