-- What the reader of a certificate takes.
use Rattle.std.proofs.Common.{◌≡◌, ◌<◌, ◌+◌, ℕ, Bool, true, false, List, [], ◌∷◌, ◌++◌, length, Option, None, Some, refl, sym, ap, subst, ◌∙◌, append_assoc, arith}
use Rattle.std.specs.Prelude.{codes}
use Rattle.std.specs.Fmt.{decimal}
use Rattle.hp_boolx.specs.declared.machine.Counts.{Counts}
use Rattle.hp_quant.specs.declared.line.Line.{Line}
use Rattle.hp_cert.specs.Certtext.Certificates.{AreLines, AreWidths, IsClaim, Claim, win, lose, Certificate, HasForm}
use Rattle.hp_cert.specs.Certtext.Pieces.{Piece, Pieces}
use Rattle.hp_cert.specs.Certtext.Reading as reading
use Rattle.hp_cert.specs.Certtext.Reading.{Reader}
use Rattle.hp_cert.specs.Certtext.Texts as text
use Rattle.hp_cert.specs.Certtext.Texts.{space, newline, cert_pieces}
use Rattle.hp_cert.proofs.CerttextLemmas.Formats.{then_, FixedTakes, fixed_phrase, HeadTakes, heading_phrase, is_win_phrase, NodeTakes, node_phrase, CountsTake, counts_phrase, RefTakes, ref_phrase, LeastTakes, least_phrase}
use Rattle.hp_cert.proofs.CerttextLemmas.FormatLists.{WidthsTake, widths_phrase, LinesTake, lines_phrase, FunsTake, funs_phrase, RanksTake, ranks_phrase}
use Rattle.hp_cert.proofs.CerttextLemmas.Goings.{of_two}
use Rattle.hp_cert.proofs.CerttextLemmas.Phrases.{Takes, IsPhrase, Then, Given, given_phrase, alike}

-- ---- what is proved

-- whether it is a win
abbrev pub wins : Claim → Bool
wins (win inv rs) = true
wins (lose rs) = false

abbrev pub Proved : Type 0
Proved = List Line × Claim

-- the lines, what is proved, and the word behind
abbrev pub ProvedTakes : Bool → Takes Proved
ProvedTakes b ts p rest = (wins p.1 ≡ b) × AreLines 2 p.0 × IsClaim (length p.0 + 2) p.1 × (ts ≡ text.lines 2 p.0 ++ (text.claim p.1 ++ codes "end" ∷ rest))

some_end : (ls : List Line) → 0 < length ls + 2
some_end ls = omega arith

abbrev WonRaw : Takes Proved
WonRaw = Then (LinesTake (codes "inv") refl) (λ ls. Then (RefTakes (length ls + 2)) (λ inv. Then (FunsTake (length ls + 2) (some_end ls)) (λ rs. Given (ls, win inv rs))))

won_phrase : IsPhrase reading.won (ProvedTakes true)
won_phrase = alike WonRaw (ProvedTakes true) to back reading.won
    (then_ (lines_phrase (codes "inv") refl) (λ ls. then_ (ref_phrase (length ls + 2) (some_end ls)) (λ inv. then_ (funs_phrase (length ls + 2) (some_end ls)) (λ rs. given_phrase (ls, win inv rs)))))
  where
    to : (ts : Pieces) (p : Proved) (rest : Pieces) → WonRaw ts p rest → ProvedTakes true ts p rest
    to ts p rest (ls, m, h, (inv, k, i, (rs, n, f, (e, q)))) =
        let P : Proved → Type 0 = λ p. ProvedTakes true ts p rest in
        subst P (sym e) (
          refl,
          h.0,
          (i.0, f.0),
          h.1 ∙ ap (λ z. text.lines 2 ls ++ codes "inv" ∷ z) (i.1 ∙ ap (λ z. space ∷ decimal inv ∷ newline ∷ z) (f.1 ∙ ap (λ z. text.funs rs ++ codes "end" ∷ z) q)),
        )

    back : (ts : Pieces) (p : Proved) (rest : Pieces) → ProvedTakes true ts p rest → WonRaw ts p rest
    back ts (ls, win inv rs) rest h =
        (ls, space ∷ decimal inv ∷ newline ∷ (text.funs rs ++ codes "end" ∷ rest), (h.1, h.3), (inv, text.funs rs ++ codes "end" ∷ rest, (h.2.0, refl), (rs, rest, (h.2.1, refl), (refl, refl))))
    back ts (ls, lose rs) rest h = absurd (differ h.0)
      where
        differ : false ≡ true → ⊥
        differ e = cc

abbrev LostRaw : Takes Proved
LostRaw = Then (LinesTake (codes "least") refl) (λ ls. Then LeastTakes (λ n. Then (RanksTake (length ls + 2) (some_end ls) n) (λ rs. Then (FixedTakes (codes "end")) (λ u. Given (ls, lose rs)))))

lost_phrase : IsPhrase reading.lost (ProvedTakes false)
lost_phrase = alike LostRaw (ProvedTakes false) to back reading.lost
    (then_ (lines_phrase (codes "least") refl) (λ ls. then_ least_phrase (λ n. then_ (ranks_phrase (length ls + 2) (some_end ls) n) (λ rs. then_ (fixed_phrase (codes "end")) (λ u. given_phrase (ls, lose rs))))))
  where
    to : (ts : Pieces) (p : Proved) (rest : Pieces) → LostRaw ts p rest → ProvedTakes false ts p rest
    to ts p rest (ls, m, h, (n, k, i, (rs, l, f, (u, v, g, (e, q))))) =
        let P : Proved → Type 0 = λ p. ProvedTakes false ts p rest in
        let many = f.0 in let low = i.0 in let high = i.1 in
        subst P (sym e) (
          refl,
          h.0,
          (omega (arith, many, low), omega (arith, many, high), f.1),
          h.1 ∙ ap (λ z. text.lines 2 ls ++ codes "least" ∷ z) (i.2 ∙ ap (λ z. space ∷ decimal z ∷ newline ∷ k) (sym f.0)
              ∙ ap (λ z. space ∷ decimal (length rs) ∷ newline ∷ z) (f.2 ∙ ap (λ z. text.ranks 1 rs ++ z) (g ∙ ap (λ z. codes "end" ∷ z) q))),
        )

    back : (ts : Pieces) (p : Proved) (rest : Pieces) → ProvedTakes false ts p rest → LostRaw ts p rest
    back ts (ls, win inv rs) rest h = absurd (differ h.0)
      where
        differ : true ≡ false → ⊥
        differ e = cc
    back ts (ls, lose rs) rest h = (
      ls,
      space ∷ decimal (length rs) ∷ newline ∷ (text.ranks 1 rs ++ codes "end" ∷ rest),
      (h.1, h.3),
      (length rs, text.ranks 1 rs ++ codes "end" ∷ rest, (h.2.0, h.2.1, refl), (rs, codes "end" ∷ rest, (refl, h.2.2, refl), (tt, rest, refl, (refl, refl)))),
    )

proved_phrase : (b : Bool) → IsPhrase (reading.proved b) (ProvedTakes b)
proved_phrase true = won_phrase
proved_phrase false = lost_phrase

-- ---- widths, where they are said

abbrev pub said : Option (List ℕ) → Bool
said None = false
said (Some ns) = true

abbrev pub SaidTakes : Bool → Takes (Option (List ℕ))
SaidTakes b ts o rest = (said o ≡ b) × AreWidths o × (ts ≡ text.controls o ++ rest)

said_phrase : (b : Bool) → IsPhrase (reading.said_widths b) (SaidTakes b)
said_phrase true = alike (Then WidthsTake (λ ns. Given (Some ns))) (SaidTakes true) to back (reading.said_widths true) (then_ widths_phrase (λ ns. given_phrase (Some ns)))
  where
    behind : (ns : List ℕ) (rest : Pieces) → codes "controls" ∷ (text.spaced (text.decimals ns) ++ newline ∷ rest) ≡ text.controls (Some ns) ++ rest
    behind ns rest = ap (λ z. codes "controls" ∷ z) (sym (append_assoc (text.spaced (text.decimals ns)) (newline ∷ []) rest))

    to : (ts : Pieces) (o : Option (List ℕ)) (rest : Pieces) → Then WidthsTake (λ ns. Given (Some ns)) ts o rest → SaidTakes true ts o rest
    to ts o rest (ns, m, h, (e, q)) =
        let P : Option (List ℕ) → Type 0 = λ o. SaidTakes true ts o rest in
        subst P (sym e) (refl, h.0, h.1 ∙ ap (λ z. codes "controls" ∷ (text.spaced (text.decimals ns) ++ newline ∷ z)) q ∙ behind ns rest)

    back : (ts : Pieces) (o : Option (List ℕ)) (rest : Pieces) → SaidTakes true ts o rest → Then WidthsTake (λ ns. Given (Some ns)) ts o rest
    back ts (Some ns) rest h = (ns, rest, (h.1, h.2 ∙ sym (behind ns rest)), (refl, refl))
    back ts None rest h = absurd (differ h.0)
      where
        differ : false ≡ true → ⊥
        differ e = cc
said_phrase false = alike (Given None) (SaidTakes false) to back (reading.said_widths false) (given_phrase None)
  where
    to : (ts : Pieces) (o : Option (List ℕ)) (rest : Pieces) → Given None ts o rest → SaidTakes false ts o rest
    to ts o rest (e, q) = let P : Option (List ℕ) → Type 0 = λ o. SaidTakes false ts o rest in subst P (sym e) (refl, tt, q)

    back : (ts : Pieces) (o : Option (List ℕ)) (rest : Pieces) → SaidTakes false ts o rest → Given None ts o rest
    back ts (Some ns) rest h = absurd (differ h.0)
      where
        differ : true ≡ false → ⊥
        differ e = cc
    back ts None rest h = (refl, h.2)

-- ---- all lines

abbrev made : Piece → Counts → Option (List ℕ) → Proved → Certificate
made x n ns p = record { node = x; registers = n.registers; early = n.early; control = n.control; late = n.late; widths = ns; lines = p.0; claim = p.1 }

abbrev pub BodyTakes : Takes Certificate
BodyTakes ts c rest = HasForm c × (ts ≡ cert_pieces c ++ rest)

abbrev BodyRaw : Takes Certificate
BodyRaw =
    Then (HeadTakes (codes "hept-cert") (codes "2") (codes "1")) (λ b. Then NodeTakes (λ x. Then (HeadTakes (codes "kind") (codes "win") (codes "lose")) (λ w. Then CountsTake (λ n. Then (SaidTakes b) (λ ns. Then (ProvedTakes w) (λ p.
    Then (FixedTakes newline) (λ u. Given (made x n ns p))))))))

-- the pieces of a certificate, as its readers take them
abbrev taken : Certificate → Pieces → Pieces
taken c rest =
    codes "hept-cert" ∷ space ∷ of_two (codes "2") (codes "1") (said c.widths) ∷ newline ∷ codes "node" ∷ space ∷ c.node ∷ newline ∷ codes "kind" ∷ space ∷ of_two (codes "win") (codes "lose") (wins c.claim) ∷ newline
    ∷ codes "vars" ∷ space ∷ decimal c.registers ∷ space ∷ decimal c.early ∷ space ∷ decimal c.control ∷ space ∷ decimal c.late ∷ newline
    ∷ (text.controls c.widths ++ (text.lines 2 c.lines ++ (text.claim c.claim ++ codes "end" ∷ newline ∷ rest)))

version_said : (o : Option (List ℕ)) → text.version o ≡ of_two (codes "2") (codes "1") (said o)
version_said None = refl
version_said (Some ns) = refl

kind_said : (k : Claim) → text.kind k ≡ of_two (codes "win") (codes "lose") (wins k)
kind_said (win inv rs) = refl
kind_said (lose rs) = refl

all_taken : (c : Certificate) (rest : Pieces) → cert_pieces c ++ rest ≡ taken c rest
unfolding cert_pieces
all_taken c rest =
    ap (λ z. codes "hept-cert" ∷ space ∷ z ∷ newline ∷ codes "node" ∷ space ∷ c.node ∷ newline ∷ codes "kind" ∷ space ∷ text.kind c.claim ∷ newline
    ∷ codes "vars" ∷ space ∷ decimal c.registers ∷ space ∷ decimal c.early ∷ space ∷ decimal c.control ∷ space ∷ decimal c.late ∷ newline ∷ (whole ++ rest)) (version_said c.widths)
    ∙ ap (λ z. codes "hept-cert" ∷ space ∷ of_two (codes "2") (codes "1") (said c.widths) ∷ newline ∷ codes "node" ∷ space ∷ c.node ∷ newline ∷ codes "kind" ∷ space ∷ z ∷ newline
    ∷ codes "vars" ∷ space ∷ decimal c.registers ∷ space ∷ decimal c.early ∷ space ∷ decimal c.control ∷ space ∷ decimal c.late ∷ newline ∷ (whole ++ rest)) (kind_said c.claim)
    ∙ ap (λ z. codes "hept-cert" ∷ space ∷ of_two (codes "2") (codes "1") (said c.widths) ∷ newline ∷ codes "node" ∷ space ∷ c.node ∷ newline ∷ codes "kind" ∷ space ∷ of_two (codes "win") (codes "lose") (wins c.claim) ∷ newline
    ∷ codes "vars" ∷ space ∷ decimal c.registers ∷ space ∷ decimal c.early ∷ space ∷ decimal c.control ∷ space ∷ decimal c.late ∷ newline ∷ z)
    (append_assoc (text.controls c.widths) (text.lines 2 c.lines ++ (text.claim c.claim ++ codes "end" ∷ newline ∷ [])) rest
    ∙ ap (λ z. text.controls c.widths ++ z) (append_assoc (text.lines 2 c.lines) (text.claim c.claim ++ codes "end" ∷ newline ∷ []) rest
    ∙ ap (λ z. text.lines 2 c.lines ++ z) (append_assoc (text.claim c.claim) (codes "end" ∷ newline ∷ []) rest)))
  where
    whole : Pieces
    whole = text.controls c.widths ++ (text.lines 2 c.lines ++ (text.claim c.claim ++ codes "end" ∷ newline ∷ []))

pub body_phrase : IsPhrase reading.body BodyTakes
body_phrase = alike BodyRaw BodyTakes to back reading.body
    (then_ heading_phrase (λ b. then_ node_phrase (λ x. then_ is_win_phrase (λ w. then_ counts_phrase (λ n. then_ (said_phrase b) (λ ns. then_ (proved_phrase w) (λ p. then_ (fixed_phrase newline) (λ u. given_phrase (made x n ns p)))))))))
  where
    to : (ts : Pieces) (c : Certificate) (rest : Pieces) → BodyRaw ts c rest → BodyTakes ts c rest
    to ts c rest (b, m, h, (x, m1, h1, (w, m2, h2, (n, m3, h3, (ns, m4, h4, (p, m5, h5, (u, m6, h6, (e, q)))))))) =
        let P : Certificate → Type 0 = λ c. BodyTakes ts c rest in
        subst P (sym e) (
          record { node = h1.0; registers = h3.0; early = h3.1; control = h3.2; late = h3.3; widths = h4.1; lines = h5.1; claim = h5.2 },
          h ∙ ap (λ z. codes "hept-cert" ∷ space ∷ of_two (codes "2") (codes "1") z ∷ newline ∷ m) (sym h4.0)
              ∙ ap (λ z. codes "hept-cert" ∷ space ∷ of_two (codes "2") (codes "1") (said ns) ∷ newline ∷ z)
              (h1.1 ∙ ap (λ z. codes "node" ∷ space ∷ x ∷ newline ∷ z)
              (h2 ∙ ap (λ z. codes "kind" ∷ space ∷ of_two (codes "win") (codes "lose") z ∷ newline ∷ m2) (sym h5.0)
              ∙ ap (λ z. codes "kind" ∷ space ∷ of_two (codes "win") (codes "lose") (wins p.1) ∷ newline ∷ z)
              (h3.4 ∙ ap (λ z. codes "vars" ∷ space ∷ decimal n.registers ∷ space ∷ decimal n.early ∷ space ∷ decimal n.control ∷ space ∷ decimal n.late ∷ newline ∷ z)
              (h4.2 ∙ ap (λ z. text.controls ns ++ z) (h5.3 ∙ ap (λ z. text.lines 2 p.0 ++ (text.claim p.1 ++ codes "end" ∷ z)) (h6 ∙ ap (λ z. newline ∷ z) q))))))
              ∙ sym (all_taken (made x n ns p) rest),
        )

    back : (ts : Pieces) (c : Certificate) (rest : Pieces) → BodyTakes ts c rest → BodyRaw ts c rest
    back ts c rest h =
        let f = h.0 in
        let n : Counts = record { registers = c.registers; early = c.early; control = c.control; late = c.late } in
        let m5 = newline ∷ rest in
        let m4 = text.lines 2 c.lines ++ (text.claim c.claim ++ codes "end" ∷ m5) in
        let m3 = text.controls c.widths ++ m4 in
        let m2 = codes "vars" ∷ space ∷ decimal c.registers ∷ space ∷ decimal c.early ∷ space ∷ decimal c.control ∷ space ∷ decimal c.late ∷ newline ∷ m3 in
        let m1 = codes "kind" ∷ space ∷ of_two (codes "win") (codes "lose") (wins c.claim) ∷ newline ∷ m2 in (
          said c.widths,
          codes "node" ∷ space ∷ c.node ∷ newline ∷ m1,
          h.1 ∙ all_taken c rest,
          (
            c.node,
            m1,
            (f.node, refl),
            (
              wins c.claim,
              m2,
              refl,
              (
                n,
                m3,
                (f.registers, f.early, f.control, f.late, refl),
                (
                  c.widths,
                  m4,
                  (refl, f.widths, refl),
                  (
                    (c.lines, c.claim),
                    m5,
                    (refl, f.lines, f.claim, refl),
                    (tt, rest, refl, (refl, refl)),
                  ),
                ),
              ),
            ),
          ),
        )
