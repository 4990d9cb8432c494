-- What the readers of single lines take.
use Rattle.std.proofs.Common.{◌≡◌, ◌<◌, ◌≤◌, ◌+◌, ◌^◌, ℕ, min, Bool, true, false, ◌||◌, ◌==◌, ◌∷◌, length, refl, sym, ap, subst, ◌∙◌, arith}
use Rattle.std.specs.Prelude.{codes}
use Rattle.std.specs.Fmt.{decimal}
use Rattle.std.specs.Str.{bytes_eq}
use Rattle.hp_boolx.specs.declared.machine.Counts.{Counts}
use Rattle.hp_obc.specs.Form.{is_name, is_reserved}
use Rattle.hp_quant.specs.declared.line.Line.{Line}
use Rattle.hp_cert.specs.Certtext.Certificates.{IsShort, IsRef}
use Rattle.hp_cert.specs.Certtext.Outcomes.{done, ◌>>=◌}
use Rattle.hp_cert.specs.Certtext.Pieces.{Piece, Pieces}
use Rattle.hp_cert.specs.Certtext.Reading.{Reader, is_start, this, which, number_of, name_of, fixed, either, number, name, field, heading, node, is_win, counts, width, line, ref_line, rank, least}
use Rattle.hp_cert.specs.Certtext.Texts.{space, newline}
use Rattle.hp_cert.proofs.CerttextLemmas.Goings.{fixed_goes, either_goes, number_goes, name_goes, is_this, this_word, is_which, which_first, which_second, of_two, number_said, said_number, name_said, said_name}
use Rattle.hp_cert.proofs.CerttextLemmas.Phrases.{Takes, IsPhrase, OneTakes, one_phrase, Then, Given, given_phrase, then_phrase, alike}

-- one behind the other, where all else is seen from the two
pub then_ : {A B : Type 0} {first : Takes A} {second : A → Takes B} {read : Reader A} {f : A → Reader B} → IsPhrase read first → ((a : A) → IsPhrase (f a) (second a)) → IsPhrase (λ ws. read ws >>= λ r. f r.0 r.1) (Then first second)
then_ {first = first} {second = second} {read = read} {f = f} p q = then_phrase first second read f p q

-- ---- one piece

abbrev pub FixedTakes : Piece → Takes (Unit {0})
FixedTakes w ts u rest = ts ≡ w ∷ rest

pub fixed_phrase : (w : Piece) → IsPhrase (fixed w) (FixedTakes w)
fixed_phrase w =
    alike (OneTakes (this w)) (FixedTakes w) (λ ts u rest h. h.2 ∙ ap (λ x. x ∷ rest) (is_this w h.0 u h.1)) (λ ts u rest h. (w, this_word w, h)) (fixed w)
    (one_phrase (λ v. is_start v w) (this w) (fixed_goes w))

pub pick_phrase : (w other : Piece) → bytes_eq other w ≡ false → IsPhrase (either w other) (OneTakes (which w other))
pick_phrase w other e = one_phrase (λ v. is_start v w || is_start v other) (which w other) (either_goes w other e)

abbrev pub EitherTakes : Piece → Piece → Takes Bool
EitherTakes w other ts b rest = ts ≡ of_two w other b ∷ rest

pub pick_said : (w other : Piece) (ts : Pieces) (b : Bool) (rest : Pieces) → OneTakes (which w other) ts b rest → ts ≡ of_two w other b ∷ rest
pick_said w other ts b rest h = h.2 ∙ ap (λ x. x ∷ rest) (is_which w other h.0 b h.1)

pub said_pick : (w other : Piece) → bytes_eq other w ≡ false → (ts : Pieces) (b : Bool) (rest : Pieces) → ts ≡ of_two w other b ∷ rest → OneTakes (which w other) ts b rest
said_pick w other e ts true rest h = (w, which_first w other, h)
said_pick w other e ts false rest h = (other, which_second w other e, h)

pub either_phrase : (w other : Piece) → bytes_eq other w ≡ false → IsPhrase (either w other) (EitherTakes w other)
either_phrase w other e = alike (OneTakes (which w other)) (EitherTakes w other) (pick_said w other) (said_pick w other e) (either w other) (pick_phrase w other e)

abbrev pub NumberTakes : ℕ → ℕ → Takes ℕ
NumberTakes from end ts n rest = (from ≤ n) × (n < end) × (ts ≡ decimal n ∷ rest)

pub number_phrase : (from end : ℕ) → from ≤ 1 → from < end → end ≤ 2 ^ 64 → IsPhrase (number from end) (NumberTakes from end)
number_phrase from end low some high =
    alike (OneTakes (number_of from end)) (NumberTakes from end)
    (λ ts n rest h. let s = number_said from end n h.0 high h.1 in (s.1, s.2, h.2 ∙ ap (λ x. x ∷ rest) s.0))
    (λ ts n rest h. (decimal n, said_number from end n high h.0 h.1, h.2)) (number from end)
    (one_phrase (λ w. length w == 0) (number_of from end) (number_goes from end low some))

abbrev pub NameTakes : Takes Piece
NameTakes ts x rest = (is_name x ≡ true) × (ts ≡ x ∷ rest)

pub name_phrase : IsPhrase name NameTakes
name_phrase =
    alike (OneTakes name_of) NameTakes (λ ts x rest h. let s = name_said x h.0 h.1 in (s.1, h.2 ∙ ap (λ z. z ∷ rest) s.0)) (λ ts x rest h. (x, said_name x h.0, h.1)) name
    (one_phrase (λ w. is_reserved w || (length w == 0)) name_of name_goes)

-- ---- lines

abbrev pub HeadTakes : Piece → Piece → Piece → Takes Bool
HeadTakes word w other ts b rest = ts ≡ word ∷ space ∷ of_two w other b ∷ newline ∷ rest

abbrev HeadRaw : (word w other : Piece) → Takes Bool
HeadRaw word w other = Then (FixedTakes word) (λ u. Then (FixedTakes space) (λ u. Then (EitherTakes w other) (λ b. Then (FixedTakes newline) (λ u. Given b))))

head_phrase : (word w other : Piece) → bytes_eq other w ≡ false →
    IsPhrase (λ ws. fixed word ws >>= λ r. fixed space r.1 >>= λ r. either w other r.1 >>= λ b. fixed newline b.1 >>= λ r. done b.0 r.1) (HeadTakes word w other)
head_phrase word w other e = alike (HeadRaw word w other) (HeadTakes word w other) to back (λ ws. fixed word ws >>= λ r. fixed space r.1 >>= λ r. either w other r.1 >>= λ b. fixed newline b.1 >>= λ r. done b.0 r.1)
    (then_ (fixed_phrase word) (λ u. then_ (fixed_phrase space) (λ u. then_ (either_phrase w other e) (λ b. then_ (fixed_phrase newline) (λ u. given_phrase b)))))
  where
    to : (ts : Pieces) (b : Bool) (rest : Pieces) → HeadRaw word w other ts b rest → HeadTakes word w other ts b rest
    to ts b rest (u, m, p, (v, n, q, (a, k, r, (x, l, s, (e, f))))) =
        p ∙ ap (λ z. word ∷ z) (q ∙ ap (λ z. space ∷ z) (r ∙ ap (λ z. z ∷ k) (ap (of_two w other) (sym e)) ∙ ap (λ z. of_two w other b ∷ z) (s ∙ ap (λ z. newline ∷ z) f)))

    back : (ts : Pieces) (b : Bool) (rest : Pieces) → HeadTakes word w other ts b rest → HeadRaw word w other ts b rest
    back ts b rest h = (tt, space ∷ of_two w other b ∷ newline ∷ rest, h, (tt, of_two w other b ∷ newline ∷ rest, refl, (b, newline ∷ rest, refl, (tt, rest, refl, (refl, refl)))))

pub heading_phrase : IsPhrase heading (HeadTakes (codes "hept-cert") (codes "2") (codes "1"))
heading_phrase = head_phrase (codes "hept-cert") (codes "2") (codes "1") refl

pub is_win_phrase : IsPhrase is_win (HeadTakes (codes "kind") (codes "win") (codes "lose"))
is_win_phrase = head_phrase (codes "kind") (codes "win") (codes "lose") refl

abbrev pub NodeTakes : Takes Piece
NodeTakes ts x rest = (is_name x ≡ true) × (ts ≡ codes "node" ∷ space ∷ x ∷ newline ∷ rest)

abbrev NodeRaw : Takes Piece
NodeRaw = Then (FixedTakes (codes "node")) (λ u. Then (FixedTakes space) (λ u. Then NameTakes (λ x. Then (FixedTakes newline) (λ u. Given x))))

pub node_phrase : IsPhrase node NodeTakes
node_phrase = alike NodeRaw NodeTakes to back node (then_ (fixed_phrase (codes "node")) (λ u. then_ (fixed_phrase space) (λ u. then_ name_phrase (λ x. then_ (fixed_phrase newline) (λ u. given_phrase x)))))
  where
    to : (ts : Pieces) (x : Piece) (rest : Pieces) → NodeRaw ts x rest → NodeTakes ts x rest
    to ts x rest (u, m, p, (v, n, q, (a, k, r, (z, l, s, (e, f))))) =
        (ap is_name e ∙ r.0, p ∙ ap (λ z. codes "node" ∷ z) (q ∙ ap (λ z. space ∷ z) (r.1 ∙ ap (λ z. z ∷ k) (sym e) ∙ ap (λ z. x ∷ z) (s ∙ ap (λ z. newline ∷ z) f))))

    back : (ts : Pieces) (x : Piece) (rest : Pieces) → NodeTakes ts x rest → NodeRaw ts x rest
    back ts x rest h = (tt, space ∷ x ∷ newline ∷ rest, h.1, (tt, x ∷ newline ∷ rest, refl, (x, newline ∷ rest, (h.0, refl), (tt, rest, refl, (refl, refl)))))

-- a number behind a space
abbrev pub FieldTakes : ℕ → Takes ℕ
FieldTakes end ts n rest = IsRef end n × (ts ≡ space ∷ decimal n ∷ rest)

below_both : (end n : ℕ) → n < min end 4294967296 → IsRef end n
below_both end n h = (omega (arith, h), omega (arith, h))

both_below : (end n : ℕ) → IsRef end n → n < min end 4294967296
both_below end n h = let p = h.0 in let q = h.1 in omega (arith, p, q)

abbrev FieldRaw : (end : ℕ) → Takes ℕ
FieldRaw end = Then (FixedTakes space) (λ u. NumberTakes 0 (min end 4294967296))

pub field_phrase : (end : ℕ) → 0 < end → IsPhrase (field end) (FieldTakes end)
field_phrase end some = alike (FieldRaw end) (FieldTakes end) to back (field end) (then_ (fixed_phrase space) (λ u. number_phrase 0 (min end 4294967296) (omega arith) (omega (arith, some)) (omega arith)))
  where
    to : (ts : Pieces) (n : ℕ) (rest : Pieces) → FieldRaw end ts n rest → FieldTakes end ts n rest
    to ts n rest (u, m, p, q) = (below_both end n q.1, p ∙ ap (λ z. space ∷ z) q.2)

    back : (ts : Pieces) (n : ℕ) (rest : Pieces) → FieldTakes end ts n rest → FieldRaw end ts n rest
    back ts n rest h = (tt, decimal n ∷ rest, h.1, (omega arith, both_below end n h.0, refl))

abbrev pub CountsTake : Takes Counts
CountsTake ts c rest =
    IsShort c.registers × IsShort c.early × IsShort c.control × IsShort c.late
    × (ts ≡ codes "vars" ∷ space ∷ decimal c.registers ∷ space ∷ decimal c.early ∷ space ∷ decimal c.control ∷ space ∷ decimal c.late ∷ newline ∷ rest)

short_ref : (n : ℕ) → IsShort n → IsRef 65536 n
short_ref n h = (h, omega (arith, h))

abbrev made_counts : ℕ → ℕ → ℕ → ℕ → Counts
made_counts a b c d = record { registers = a; early = b; control = c; late = d }

abbrev CountsRaw : Takes Counts
CountsRaw = Then (FixedTakes (codes "vars")) (λ u. Then (FieldTakes 65536) (λ a. Then (FieldTakes 65536) (λ b. Then (FieldTakes 65536) (λ c. Then (FieldTakes 65536) (λ d. Then (FixedTakes newline) (λ u. Given (made_counts a b c d)))))))

pub counts_phrase : IsPhrase counts CountsTake
counts_phrase = alike CountsRaw CountsTake to back counts
    (then_ (fixed_phrase (codes "vars")) (λ u. then_ (field_phrase 65536 (omega arith)) (λ a. then_ (field_phrase 65536 (omega arith)) (λ b. then_ (field_phrase 65536 (omega arith)) (λ c. then_ (field_phrase 65536 (omega arith)) (λ d.
    then_ (fixed_phrase newline) (λ u. given_phrase (record { registers = a; early = b; control = c; late = d }))))))))
  where
    said : (a b c d : ℕ) (n : Counts) (rest : Pieces) → n ≡ made_counts a b c d → (ts : Pieces) →
        ts ≡ codes "vars" ∷ space ∷ decimal a ∷ space ∷ decimal b ∷ space ∷ decimal c ∷ space ∷ decimal d ∷ newline ∷ rest → IsShort a → IsShort b → IsShort c → IsShort d → CountsTake ts n rest
    said a b c d n rest e ts h p q r s = subst (λ (n : Counts). CountsTake ts n rest) (sym e) (p, q, r, s, h)

    to : (ts : Pieces) (n : Counts) (rest : Pieces) → CountsRaw ts n rest → CountsTake ts n rest
    to ts n rest (u, m, p, (a, m1, p1, (b, m2, p2, (c, m3, p3, (d, m4, p4, (v, m5, p5, (e, f))))))) =
        said a b c d n rest e ts
        (p ∙ ap (λ z. codes "vars" ∷ z) (p1.1 ∙ ap (λ z. space ∷ decimal a ∷ z) (p2.1 ∙ ap (λ z. space ∷ decimal b ∷ z) (p3.1 ∙ ap (λ z. space ∷ decimal c ∷ z) (p4.1 ∙ ap (λ z. space ∷ decimal d ∷ z) (p5 ∙ ap (λ z. newline ∷ z) f))))))
        p1.0.0 p2.0.0 p3.0.0 p4.0.0

    back : (ts : Pieces) (n : Counts) (rest : Pieces) → CountsTake ts n rest → CountsRaw ts n rest
    back ts n rest h = (
      tt,
      space ∷ decimal n.registers ∷ space ∷ decimal n.early ∷ space ∷ decimal n.control ∷ space ∷ decimal n.late ∷ newline ∷ rest,
      h.4,
      (
        n.registers,
        space ∷ decimal n.early ∷ space ∷ decimal n.control ∷ space ∷ decimal n.late ∷ newline ∷ rest,
        (short_ref n.registers h.0, refl),
        (
          n.early,
          space ∷ decimal n.control ∷ space ∷ decimal n.late ∷ newline ∷ rest,
          (short_ref n.early h.1, refl),
          (
            n.control,
            space ∷ decimal n.late ∷ newline ∷ rest,
            (short_ref n.control h.2, refl),
            (n.late, newline ∷ rest, (short_ref n.late h.3, refl), (tt, rest, refl, (refl, refl))),
          ),
        ),
      ),
    )

pub width_phrase : (i : ℕ) → IsPhrase (width i) (NumberTakes 0 65536)
width_phrase i = number_phrase 0 65536 (omega arith) (omega arith) (omega arith)

abbrev pub LineTakes : ℕ → Takes Line
LineTakes i ts l rest =
    IsShort l.var × IsRef (i + 2) l.low × IsRef (i + 2) l.high
    × (ts ≡ space ∷ decimal (i + 2) ∷ space ∷ decimal l.var ∷ space ∷ decimal l.low ∷ space ∷ decimal l.high ∷ newline ∷ rest)

abbrev made_line : ℕ → ℕ → ℕ → Line
made_line x a b = record { var = x; low = a; high = b }

abbrev LineRaw : (i : ℕ) → Takes Line
LineRaw i = Then (FixedTakes space) (λ u. Then (FixedTakes (decimal (i + 2))) (λ u. Then (FieldTakes 65536) (λ x. Then (FieldTakes (i + 2)) (λ a. Then (FieldTakes (i + 2)) (λ b. Then (FixedTakes newline) (λ u. Given (made_line x a b)))))))

pub line_phrase : (i : ℕ) → IsPhrase (line i) (LineTakes i)
line_phrase i = alike (LineRaw i) (LineTakes i) to back (line i)
    (then_ (fixed_phrase space) (λ u. then_ (fixed_phrase (decimal (i + 2))) (λ u. then_ (field_phrase 65536 (omega arith)) (λ x. then_ (field_phrase (i + 2) (omega arith)) (λ a. then_ (field_phrase (i + 2) (omega arith)) (λ b.
    then_ (fixed_phrase newline) (λ u. given_phrase (record { var = x; low = a; high = b }))))))))
  where
    said : (x a b : ℕ) (l : Line) (rest : Pieces) → l ≡ made_line x a b → (ts : Pieces) →
        ts ≡ space ∷ decimal (i + 2) ∷ space ∷ decimal x ∷ space ∷ decimal a ∷ space ∷ decimal b ∷ newline ∷ rest → IsShort x → IsRef (i + 2) a → IsRef (i + 2) b → LineTakes i ts l rest
    said x a b l rest e ts h p q r = subst (λ (l : Line). LineTakes i ts l rest) (sym e) (p, q, r, h)

    to : (ts : Pieces) (l : Line) (rest : Pieces) → LineRaw i ts l rest → LineTakes i ts l rest
    to ts l rest (u, m, p, (v, m1, p1, (x, m2, p2, (a, m3, p3, (b, m4, p4, (w, m5, p5, (e, f))))))) =
        said x a b l rest e ts
        (p ∙ ap (λ z. space ∷ z) (p1 ∙ ap (λ z. decimal (i + 2) ∷ z) (p2.1 ∙ ap (λ z. space ∷ decimal x ∷ z) (p3.1 ∙ ap (λ z. space ∷ decimal a ∷ z) (p4.1 ∙ ap (λ z. space ∷ decimal b ∷ z) (p5 ∙ ap (λ z. newline ∷ z) f))))))
        p2.0.0 p3.0 p4.0

    back : (ts : Pieces) (l : Line) (rest : Pieces) → LineTakes i ts l rest → LineRaw i ts l rest
    back ts l rest h = (
      tt,
      decimal (i + 2) ∷ space ∷ decimal l.var ∷ space ∷ decimal l.low ∷ space ∷ decimal l.high ∷ newline ∷ rest,
      h.3,
      (
        tt,
        space ∷ decimal l.var ∷ space ∷ decimal l.low ∷ space ∷ decimal l.high ∷ newline ∷ rest,
        refl,
        (
          l.var,
          space ∷ decimal l.low ∷ space ∷ decimal l.high ∷ newline ∷ rest,
          (short_ref l.var h.0, refl),
          (
            l.low,
            space ∷ decimal l.high ∷ newline ∷ rest,
            (h.1, refl),
            (l.high, newline ∷ rest, (h.2, refl), (tt, rest, refl, (refl, refl))),
          ),
        ),
      ),
    )

abbrev pub RefTakes : ℕ → Takes ℕ
RefTakes end ts r rest = IsRef end r × (ts ≡ space ∷ decimal r ∷ newline ∷ rest)

abbrev RefRaw : (end : ℕ) → Takes ℕ
RefRaw end = Then (FieldTakes end) (λ r. Then (FixedTakes newline) (λ u. Given r))

pub ref_phrase : (end : ℕ) → 0 < end → IsPhrase (ref_line end) (RefTakes end)
ref_phrase end some = alike (RefRaw end) (RefTakes end) to back (ref_line end) (then_ (field_phrase end some) (λ r. then_ (fixed_phrase newline) (λ u. given_phrase r)))
  where
    to : (ts : Pieces) (r : ℕ) (rest : Pieces) → RefRaw end ts r rest → RefTakes end ts r rest
    to ts r rest (a, m, p, (u, n, q, (e, f))) = (subst (IsRef end) (sym e) p.0, p.1 ∙ ap (λ z. space ∷ decimal z ∷ m) (sym e) ∙ ap (λ z. space ∷ decimal r ∷ z) (q ∙ ap (λ z. newline ∷ z) f))

    back : (ts : Pieces) (r : ℕ) (rest : Pieces) → RefTakes end ts r rest → RefRaw end ts r rest
    back ts r rest h = (r, newline ∷ rest, (h.0, h.1), (tt, rest, refl, (refl, refl)))

abbrev pub RankTakes : ℕ → ℕ → Takes ℕ
RankTakes end i ts r rest = IsRef end r × (ts ≡ codes "rank" ∷ space ∷ decimal (i + 1) ∷ space ∷ decimal r ∷ newline ∷ rest)

abbrev RankRaw : (end i : ℕ) → Takes ℕ
RankRaw end i = Then (FixedTakes (codes "rank")) (λ u. Then (FixedTakes space) (λ u. Then (FixedTakes (decimal (i + 1))) (λ u. RefTakes end)))

pub rank_phrase : (end : ℕ) → 0 < end → (i : ℕ) → IsPhrase (rank end i) (RankTakes end i)
rank_phrase end some i = alike (RankRaw end i) (RankTakes end i) to back (rank end i) (then_ (fixed_phrase (codes "rank")) (λ u. then_ (fixed_phrase space) (λ u. then_ (fixed_phrase (decimal (i + 1))) (λ u. ref_phrase end some))))
  where
    to : (ts : Pieces) (r : ℕ) (rest : Pieces) → RankRaw end i ts r rest → RankTakes end i ts r rest
    to ts r rest (u, m, p, (v, n, q, (w, k, s, t))) = (t.0, p ∙ ap (λ z. codes "rank" ∷ z) (q ∙ ap (λ z. space ∷ z) (s ∙ ap (λ z. decimal (i + 1) ∷ z) t.1)))

    back : (ts : Pieces) (r : ℕ) (rest : Pieces) → RankTakes end i ts r rest → RankRaw end i ts r rest
    back ts r rest h = (
      tt,
      space ∷ decimal (i + 1) ∷ space ∷ decimal r ∷ newline ∷ rest,
      h.1,
      (tt, decimal (i + 1) ∷ space ∷ decimal r ∷ newline ∷ rest, refl, (tt, space ∷ decimal r ∷ newline ∷ rest, refl, (h.0, refl))),
    )

abbrev pub LeastTakes : Takes ℕ
LeastTakes ts n rest = (1 ≤ n) × (n < 2 ^ 32) × (ts ≡ space ∷ decimal n ∷ newline ∷ rest)

abbrev LeastRaw : Takes ℕ
LeastRaw = Then (FixedTakes space) (λ u. Then (NumberTakes 1 4294967296) (λ n. Then (FixedTakes newline) (λ u. Given n)))

pub least_phrase : IsPhrase least LeastTakes
least_phrase = alike LeastRaw LeastTakes to back least (then_ (fixed_phrase space) (λ u. then_ (number_phrase 1 4294967296 (omega arith) (omega arith) (omega arith)) (λ n. then_ (fixed_phrase newline) (λ u. given_phrase n))))
  where
    to : (ts : Pieces) (n : ℕ) (rest : Pieces) → LeastRaw ts n rest → LeastTakes ts n rest
    to ts n rest (u, m, p, (a, k, q, (v, l, s, (e, f)))) =
        let one = q.0 in let two = q.1 in
        (omega (arith, one, e), omega (arith, two, e), p ∙ ap (λ z. space ∷ z) (q.2 ∙ ap (λ z. decimal z ∷ k) (sym e) ∙ ap (λ z. decimal n ∷ z) (s ∙ ap (λ z. newline ∷ z) f)))

    back : (ts : Pieces) (n : ℕ) (rest : Pieces) → LeastTakes ts n rest → LeastRaw ts n rest
    back ts n rest h = (tt, decimal n ∷ newline ∷ rest, h.2, (n, newline ∷ rest, (h.0, h.1, refl), (tt, rest, refl, (refl, refl))))
