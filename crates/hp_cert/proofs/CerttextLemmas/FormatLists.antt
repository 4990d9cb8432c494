-- What the readers of lists of lines take.
use Rattle.std.proofs.Common.{◌≡◌, ◌<◌, ◌+◌, ℕ, zero, suc, true, false, List, [], ◌∷◌, ◌++◌, length, All, refl, sym, ap, subst, ◌∙◌, append_assoc, append-nil, arith}
use Rattle.std.specs.Prelude.{codes}
use Rattle.std.specs.Fmt.{decimal}
use Rattle.std.specs.Str.{bytes_eq}
use Rattle.std.proofs.lemmas.List.{length-append}
use Rattle.std.proofs.lemmas.List.Elements.{All-nil, All-cons}
use Rattle.hp_quant.specs.declared.line.Line.{Line}
use Rattle.hp_cert.specs.Certtext.Certificates.{IsShort, IsRef, AreLines}
use Rattle.hp_cert.specs.Certtext.Pieces.{Piece, Pieces}
use Rattle.hp_cert.specs.Certtext.Reading as reading
use Rattle.hp_cert.specs.Certtext.Reading.{Reader, which, until, times}
use Rattle.hp_cert.specs.Certtext.Texts.{space, newline, spaced, decimals, lines, funs, ranks}
use Rattle.hp_cert.proofs.CerttextLemmas.Formats.{then_, FixedTakes, fixed_phrase, pick_phrase, pick_said, said_pick, NumberTakes, width_phrase, LineTakes, line_phrase, RefTakes, ref_phrase, RankTakes, rank_phrase}
use Rattle.hp_cert.proofs.CerttextLemmas.Goings.{which_second}
use Rattle.hp_cert.proofs.CerttextLemmas.Phrases.{Takes, IsPhrase, Then, alike}
use Rattle.hp_cert.proofs.CerttextLemmas.Rows.{Rounds, Until, until_phrase, Times, times_phrase}

-- ---- what holds of all of a list

all_first : {A : Type 0} (P : A → Type 0) (x : A) (xs : List A) → All P (x ∷ xs) → P x
all_first P x xs h = h 0 x (omega arith)

all_rest : {A : Type 0} (P : A → Type 0) (x : A) (xs : List A) → All P (x ∷ xs) → All P xs
all_rest P x xs h k d l = h (suc k) d (omega (arith, l))

-- ---- widths

module _ where
  abbrev WidthRounds : ℕ → List ℕ → Pieces → Pieces → Type 0
  WidthRounds = Rounds space newline reading.width (λ i. NumberTakes 0 65536) (pick_phrase space newline refl) width_phrase

  widths_said : (i : ℕ) (ns : List ℕ) (ts rest : Pieces) → WidthRounds i ns ts rest → All IsShort ns × (ts ≡ spaced (decimals ns) ++ newline ∷ rest)
  widths_said i [] ts rest h = (All-nil IsShort, pick_said space newline ts false rest h)
  widths_said i (n ∷ ns) ts rest (m, k, p, q, r) =
      let s = widths_said (suc i) ns k rest r in
      (All-cons IsShort n ns q.1 s.0, pick_said space newline ts true m p ∙ ap (λ z. space ∷ z) (q.2 ∙ ap (λ z. decimal n ∷ z) s.1))

  said_widths : (i : ℕ) (ns : List ℕ) (ts rest : Pieces) → All IsShort ns → ts ≡ spaced (decimals ns) ++ newline ∷ rest → WidthRounds i ns ts rest
  said_widths i [] ts rest h e = said_pick space newline refl ts false rest e
  said_widths i (n ∷ ns) ts rest h e = (
    decimal n ∷ (spaced (decimals ns) ++ newline ∷ rest),
    spaced (decimals ns) ++ newline ∷ rest,
    said_pick space newline refl ts true (decimal n ∷ (spaced (decimals ns) ++ newline ∷ rest)) e,
    (omega arith, all_first IsShort n ns h, refl),
    said_widths (suc i) ns (spaced (decimals ns) ++ newline ∷ rest) rest (all_rest IsShort n ns h) refl,
  )

abbrev pub WidthsTake : Takes (List ℕ)
WidthsTake ts ns rest = All IsShort ns × (ts ≡ codes "controls" ∷ (spaced (decimals ns) ++ newline ∷ rest))

abbrev WidthsRaw : Takes (List ℕ)
WidthsRaw = Then (FixedTakes (codes "controls")) (λ u. Until space newline reading.width (λ i. NumberTakes 0 65536) (pick_phrase space newline refl) width_phrase [])

pub widths_phrase : IsPhrase reading.widths WidthsTake
widths_phrase = alike WidthsRaw WidthsTake to back reading.widths
    (then_ (fixed_phrase (codes "controls")) (λ u. until_phrase space newline reading.width (λ i. NumberTakes 0 65536) (pick_phrase space newline refl) width_phrase (λ ts. (newline, which_second space newline refl, refl)) []))
  where
    to : (ts : Pieces) (ns : List ℕ) (rest : Pieces) → WidthsRaw ts ns rest → WidthsTake ts ns rest
    to ts ns rest (u, m, p, (xs, e, r)) =
        let s = widths_said 0 xs m rest r in
        let P : List ℕ → Type 0 = λ ns. All IsShort ns × (ts ≡ codes "controls" ∷ (spaced (decimals ns) ++ newline ∷ rest)) in
        subst P (sym e) (s.0, p ∙ ap (λ z. codes "controls" ∷ z) s.1)

    back : (ts : Pieces) (ns : List ℕ) (rest : Pieces) → WidthsTake ts ns rest → WidthsRaw ts ns rest
    back ts ns rest h = (tt, spaced (decimals ns) ++ newline ∷ rest, h.1, (ns, refl, said_widths 0 ns (spaced (decimals ns) ++ newline ∷ rest) rest h.0 refl))

-- ---- lines

module _ (stop : Piece) (differ : bytes_eq stop (codes "d") ≡ false) where
  abbrev LineRounds : ℕ → List Line → Pieces → Pieces → Type 0
  LineRounds = Rounds (codes "d") stop reading.line LineTakes (pick_phrase (codes "d") stop differ) line_phrase

  lines_said : (i n : ℕ) (ls : List Line) (ts rest : Pieces) → n ≡ i + 2 → LineRounds i ls ts rest → AreLines n ls × (ts ≡ lines n ls ++ stop ∷ rest)
  lines_said i n [] ts rest same h = (tt, pick_said (codes "d") stop ts false rest h)
  lines_said i n (l ∷ ls) ts rest same (m, k, p, q, r) =
      let s = lines_said (suc i) (suc n) ls k rest (omega (arith, same)) r in (
        (q.0, subst (λ z. IsRef z l.low) (sym same) q.1, subst (λ z. IsRef z l.high) (sym same) q.2, s.0),
        pick_said (codes "d") stop ts true m p ∙ ap (λ z. codes "d" ∷ z) (q.3 ∙ ap (λ z. space ∷ decimal z ∷ space ∷ decimal l.var ∷ space ∷ decimal l.low ∷ space ∷ decimal l.high ∷ newline ∷ k) (sym same)
            ∙ ap (λ z. space ∷ decimal n ∷ space ∷ decimal l.var ∷ space ∷ decimal l.low ∷ space ∷ decimal l.high ∷ newline ∷ z) s.1),
      )

  said_lines : (i n : ℕ) (ls : List Line) (ts rest : Pieces) → n ≡ i + 2 → AreLines n ls → ts ≡ lines n ls ++ stop ∷ rest → LineRounds i ls ts rest
  said_lines i n [] ts rest same h e = said_pick (codes "d") stop differ ts false rest e
  said_lines i n (l ∷ ls) ts rest same h e =
      let behind = lines (suc n) ls ++ stop ∷ rest in (
        space ∷ decimal n ∷ space ∷ decimal l.var ∷ space ∷ decimal l.low ∷ space ∷ decimal l.high ∷ newline ∷ behind,
        behind,
        said_pick (codes "d") stop differ ts true (space ∷ decimal n ∷ space ∷ decimal l.var ∷ space ∷ decimal l.low ∷ space ∷ decimal l.high ∷ newline ∷ behind) e,
        (
          h.0,
          subst (λ z. IsRef z l.low) same h.1,
          subst (λ z. IsRef z l.high) same h.2,
          ap (λ z. space ∷ decimal z ∷ space ∷ decimal l.var ∷ space ∷ decimal l.low ∷ space ∷ decimal l.high ∷ newline ∷ behind) same,
        ),
        said_lines (suc i) (suc n) ls behind rest (omega (arith, same)) h.3 refl,
      )

  abbrev pub LinesTake : Takes (List Line)
  LinesTake ts ls rest = AreLines 2 ls × (ts ≡ lines 2 ls ++ stop ∷ rest)

  abbrev LinesRaw : Takes (List Line)
  LinesRaw = Until (codes "d") stop reading.line LineTakes (pick_phrase (codes "d") stop differ) line_phrase []

  pub lines_phrase : IsPhrase (reading.lines stop) LinesTake
  lines_phrase = alike LinesRaw LinesTake to back (reading.lines stop)
      (until_phrase (codes "d") stop reading.line LineTakes (pick_phrase (codes "d") stop differ) line_phrase (λ ts. (stop, which_second (codes "d") stop differ, refl)) [])
    where
      to : (ts : Pieces) (ls : List Line) (rest : Pieces) → LinesRaw ts ls rest → LinesTake ts ls rest
      to ts ls rest (xs, e, r) = let P : List Line → Type 0 = λ ls. LinesTake ts ls rest in subst P (sym e) (lines_said 0 2 xs ts rest refl r)

      back : (ts : Pieces) (ls : List Line) (rest : Pieces) → LinesTake ts ls rest → LinesRaw ts ls rest
      back ts ls rest h = (ls, refl, said_lines 0 2 ls ts rest refl h.0 h.1)

-- ---- functions

module _ (end : ℕ) (some : 0 < end) where
  abbrev FunRounds : ℕ → List ℕ → Pieces → Pieces → Type 0
  FunRounds = Rounds (codes "fun") (codes "end") (reading.fun end) (λ i. RefTakes end) (pick_phrase (codes "fun") (codes "end") refl) (λ i. ref_phrase end some)

  funs_said : (i : ℕ) (rs : List ℕ) (ts rest : Pieces) → FunRounds i rs ts rest → All (IsRef end) rs × (ts ≡ funs rs ++ codes "end" ∷ rest)
  funs_said i [] ts rest h = (All-nil (IsRef end), pick_said (codes "fun") (codes "end") ts false rest h)
  funs_said i (n ∷ ns) ts rest (m, k, p, q, r) =
      let s = funs_said (suc i) ns k rest r in
      (All-cons (IsRef end) n ns q.0 s.0, pick_said (codes "fun") (codes "end") ts true m p ∙ ap (λ z. codes "fun" ∷ z) (q.1 ∙ ap (λ z. space ∷ decimal n ∷ newline ∷ z) s.1))

  said_funs : (i : ℕ) (rs : List ℕ) (ts rest : Pieces) → All (IsRef end) rs → ts ≡ funs rs ++ codes "end" ∷ rest → FunRounds i rs ts rest
  said_funs i [] ts rest h e = said_pick (codes "fun") (codes "end") refl ts false rest e
  said_funs i (n ∷ ns) ts rest h e =
      let behind = funs ns ++ codes "end" ∷ rest in
      (space ∷ decimal n ∷ newline ∷ behind, behind, said_pick (codes "fun") (codes "end") refl ts true (space ∷ decimal n ∷ newline ∷ behind) e, (all_first (IsRef end) n ns h, refl), said_funs (suc i) ns behind rest (all_rest (IsRef end) n ns h) refl)

  abbrev pub FunsTake : Takes (List ℕ)
  FunsTake ts rs rest = All (IsRef end) rs × (ts ≡ funs rs ++ codes "end" ∷ rest)

  abbrev FunsRaw : Takes (List ℕ)
  FunsRaw = Until (codes "fun") (codes "end") (reading.fun end) (λ i. RefTakes end) (pick_phrase (codes "fun") (codes "end") refl) (λ i. ref_phrase end some) []

  pub funs_phrase : IsPhrase (until (codes "fun") (codes "end") (reading.fun end) []) FunsTake
  funs_phrase = alike FunsRaw FunsTake to back (until (codes "fun") (codes "end") (reading.fun end) [])
      (until_phrase (codes "fun") (codes "end") (reading.fun end) (λ i. RefTakes end) (pick_phrase (codes "fun") (codes "end") refl) (λ i. ref_phrase end some) (λ ts. (codes "end", which_second (codes "fun") (codes "end") refl, refl)) [])
    where
      to : (ts : Pieces) (rs : List ℕ) (rest : Pieces) → FunsRaw ts rs rest → FunsTake ts rs rest
      to ts rs rest (xs, e, r) = let P : List ℕ → Type 0 = λ rs. FunsTake ts rs rest in subst P (sym e) (funs_said 0 xs ts rest r)

      back : (ts : Pieces) (rs : List ℕ) (rest : Pieces) → FunsTake ts rs rest → FunsRaw ts rs rest
      back ts rs rest h = (rs, refl, said_funs 0 rs ts rest h.0 h.1)

  -- ---- ranks

  abbrev RanksRaw : ℕ → List ℕ → Takes (List ℕ)
  RanksRaw = Times (reading.rank end) (RankTakes end) (rank_phrase end some)

  -- so many ranks behind some
  abbrev RanksBehind : ℕ → List ℕ → Takes (List ℕ)
  RanksBehind n items ts all rest = (rs : List ℕ) × (all ≡ items ++ rs) × (length rs ≡ n) × All (IsRef end) rs × (ts ≡ ranks (length items + 1) rs ++ rest)

  next_rank : (items : List ℕ) (x : ℕ) → length (items ++ x ∷ []) + 1 ≡ suc (length items + 1)
  next_rank items x = let e = length-append items (x ∷ []) in omega (arith, e)

  ranks_said : (n : ℕ) (items : List ℕ) (ts : Pieces) (all : List ℕ) (rest : Pieces) → RanksRaw n items ts all rest → RanksBehind n items ts all rest
  ranks_said zero items ts all rest (e, f) = ([], e ∙ sym (append-nil items), refl, All-nil (IsRef end), f)
  ranks_said (suc n) items ts all rest (x, m, h, r) =
      let s = ranks_said n (items ++ x ∷ []) m all rest r in (
        x ∷ s.0,
        s.1 ∙ append_assoc items (x ∷ []) s.0,
        ap (λ z. suc z) s.2,
        All-cons (IsRef end) x s.0 h.0 s.3,
        h.1 ∙ ap (λ z. codes "rank" ∷ space ∷ decimal (length items + 1) ∷ space ∷ decimal x ∷ newline ∷ z) (s.4 ∙ ap (λ z. ranks z s.0 ++ rest) (next_rank items x)),
      )

  said_ranks : (n : ℕ) (items : List ℕ) (ts : Pieces) (all : List ℕ) (rest : Pieces) → RanksBehind n items ts all rest → RanksRaw n items ts all rest
  said_ranks zero items ts all rest ([], e, l, h, f) = (e ∙ append-nil items, f)
  said_ranks zero items ts all rest (x ∷ rs, e, l, h, f) = absurd (omega (arith, l))
  said_ranks (suc n) items ts all rest ([], e, l, h, f) = absurd (omega (arith, l))
  said_ranks (suc n) items ts all rest (x ∷ rs, e, l, h, f) = (
    x,
    ranks (suc (length items + 1)) rs ++ rest,
    (all_first (IsRef end) x rs h, f),
    said_ranks n (items ++ x ∷ []) (ranks (suc (length items + 1)) rs ++ rest) all rest
        (rs, e ∙ sym (append_assoc items (x ∷ []) rs), omega (arith, l), all_rest (IsRef end) x rs h, ap (λ z. ranks z rs ++ rest) (sym (next_rank items x))),
  )

  abbrev pub RanksTake : ℕ → Takes (List ℕ)
  RanksTake n ts rs rest = (length rs ≡ n) × All (IsRef end) rs × (ts ≡ ranks 1 rs ++ rest)

  pub ranks_phrase : (n : ℕ) → IsPhrase (times (reading.rank end) n []) (RanksTake n)
  ranks_phrase n = alike (RanksRaw n []) (RanksTake n) to back (times (reading.rank end) n []) (times_phrase (reading.rank end) (RankTakes end) (rank_phrase end some) n [])
    where
      to : (ts : Pieces) (rs : List ℕ) (rest : Pieces) → RanksRaw n [] ts rs rest → RanksTake n ts rs rest
      to ts rs rest h = let s = ranks_said n [] ts rs rest h in let P : List ℕ → Type 0 = λ rs. RanksTake n ts rs rest in subst P (sym s.1) (s.2, s.3, s.4)

      back : (ts : Pieces) (rs : List ℕ) (rest : Pieces) → RanksTake n ts rs rest → RanksRaw n [] ts rs rest
      back ts rs rest h = said_ranks n [] ts rs rest (rs, refl, h.0, h.1, h.2)
