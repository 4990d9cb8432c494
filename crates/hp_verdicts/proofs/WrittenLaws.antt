-- The text of the one certificate of a machine says that certificate, so what is written of a node shows its verdict.
use Rattle.std.proofs.Common.{◌≡◌, ◌+◌, ◌<◌, ◌≤◌, ◌^◌, ℕ, suc, Bool, true, false, IsTrue, List, [], ◌∷◌, ◌++◌, length, All, slice_get, Some, refl, sym, ap, subst, ◌∙◌, arith}
use Rattle.std.specs.Prelude.{codes, sum}
use Rattle.std.specs.Option.{option_map}
use Rattle.std.proofs.lemmas.List.{length-append}
use Rattle.std.proofs.lemmas.List.Elements.{All-cons, All-head, All-nil, All-tail}
use Rattle.std.proofs.lemmas.List.Sums.{sum_by-cons}
use Rattle.std.proofs.lemmas.Option.{slice_get-map}
use Rattle.hp_boolx.specs.Machine.{Machine, game, variables}
use Rattle.hp_cert.specs.declared.checking.Proved.{Proved}
use Rattle.hp_cert.specs.declared.checking.Proved.TheVariants as proved
use Rattle.hp_cert.specs.Certmade.Lines.{references}
use Rattle.hp_cert.specs.Certtext.Certificates.{Certificate, Claim, win, lose, IsShort, IsRef, AreWidths, AreLines, IsClaim, HasForm}
use Rattle.hp_cert.specs.Certtext.Pieces.{Pieces, joined}
use Rattle.hp_cert.specs.Certtext.Texts as texts
use Rattle.hp_cert.specs.Certtext.Texts.{cert_pieces, cert_text, decimals, line}
use Rattle.hp_cert.proofs.CerttextLemmas.WrittenLaws.{joined_append}
use Rattle.hp_diagram.specs.Diagrams.{IsReduced}
use Rattle.hp_obc.specs.Form.{is_name}
use Rattle.hp_quant.specs.declared.line.Line.{Line}
use Rattle.hp_quant.specs.Lines.{node_of}
use Rattle.hp_verdicts.specs.Canonical.{WalksAll, diagrams_of}
use Rattle.hp_verdicts.specs.Decided.{Holds, IsVerdict, is_wide_contract, verdict_of}
use Rattle.hp_verdicts.specs.Laws.{NodeWrittenLaw}
use Rattle.hp_verdicts.specs.TheCertificate.{IsClaimOf, IsTheCertificate, said_widths}
use Rattle.hp_verdicts.proofs.CanonicalLaws.{walk_within}

-- ---- a text is longer than what it says

front_long : (ps qs : Pieces) → length (joined ps) ≤ length (joined (ps ++ qs))
front_long ps qs =
    let all : length (joined (ps ++ qs)) ≡ length (joined ps) + length (joined qs) = ap length (joined_append ps qs) ∙ length-append (joined ps) (joined qs) in
    omega (arith, all)

behind_long : (ps qs : Pieces) → length (joined qs) ≤ length (joined (ps ++ qs))
behind_long ps qs =
    let all : length (joined (ps ++ qs)) ≡ length (joined ps) + length (joined qs) = ap length (joined_append ps qs) ∙ length-append (joined ps) (joined qs) in
    omega (arith, all)

lines_long : (n : ℕ) (ls : List Line) → length ls ≤ length (joined (texts.lines n ls))
lines_long n [] = omega arith
lines_long n (l ∷ ls) =
    let first = line (codes "d") (decimals (n ∷ l.var ∷ l.low ∷ l.high ∷ [])) in
    let all : length (joined (first ++ texts.lines (suc n) ls)) ≡ length (joined first) + length (joined (texts.lines (suc n) ls)) =
    ap length (joined_append first (texts.lines (suc n) ls)) ∙ length-append (joined first) (joined (texts.lines (suc n) ls)) in
    let more = lines_long (suc n) ls in
    omega (arith, all, more)

ranks_long : (k : ℕ) (rs : List ℕ) → length rs ≤ length (joined (texts.ranks k rs))
ranks_long k [] = omega arith
ranks_long k (r ∷ rs) =
    let first = line (codes "rank") (decimals (k ∷ r ∷ [])) in
    let all : length (joined (first ++ texts.ranks (suc k) rs)) ≡ length (joined first) + length (joined (texts.ranks (suc k) rs)) =
    ap length (joined_append first (texts.ranks (suc k) rs)) ∙ length-append (joined first) (joined (texts.ranks (suc k) rs)) in
    let more = ranks_long (suc k) rs in
    omega (arith, all, more)

-- how many ranks are claimed
abbrev ranks_of : Claim → List ℕ
ranks_of (win inv funs) = []
ranks_of (lose ranks) = ranks

claim_long : (k : Claim) → length (ranks_of k) ≤ length (joined (texts.claim k))
claim_long (win inv funs) = omega arith
claim_long (lose ranks) =
    let more = ranks_long 1 ranks in
    let all = behind_long (line (codes "least") (decimals (length ranks ∷ []))) (texts.ranks 1 ranks) in
    omega (arith, more, all)

-- ---- what a text can say

widths_short : (ns : List ℕ) → sum ns ≤ 65535 → All IsShort ns
widths_short [] few = All-nil IsShort
widths_short (n ∷ ns) few =
    let all : sum (n ∷ ns) ≡ n + sum ns = sum_by-cons (λ x. x) n ns in
    All-cons IsShort n ns (omega (arith, all, few)) (widths_short ns (omega (arith, all, few)))

said_short : (m : Machine) (wide : Bool) → sum m.widths ≤ 65535 → AreWidths (said_widths wide m)
said_short m true few = widths_short m.widths few
said_short m false few = tt

lines_form : (vars k : ℕ) (ls : List Line) → vars ≤ 65535 → k + length ls ≤ 2 ^ 32 → ((i : ℕ) (l : Line) → slice_get ls i ≡ Some l → (l.var < vars) × (l.low < k + i) × (l.high < k + i)) → AreLines k ls
lines_form vars k [] few many each = tt
lines_form vars k (l ∷ ls) few many each =
    let first = each 0 l refl in
    let var = first.0 in
    let low = first.1 in
    let high = first.2 in (
      omega (arith, few, var),
      (omega (arith, low), omega (arith, low, many)),
      (omega (arith, high), omega (arith, high, many)),
      lines_form vars (suc k) ls few (omega (arith, many)) (λ i x at.
          let later = each (suc i) x at in
          let less = later.1 in
          let up = later.2 in
          (later.0, omega (arith, less), omega (arith, up))),
    )

-- the lines of reduced diagrams refer to earlier ones
line_at : (vars : ℕ) (ls : List Line) → IsReduced (diagrams_of vars ls) → (i : ℕ) (l : Line) → slice_get ls i ≡ Some l → (l.var < vars) × (l.low < 2 + i) × (l.high < 2 + i)
line_at vars ls reduced i l at =
    let node = reduced.nodes (suc (suc i)) (node_of l) (slice_get-map node_of ls i ∙ ap (option_map node_of) at) in
    let low = node.low in
    let high = node.high in
    (node.var, omega (arith, low), omega (arith, high))

refs_form : (ls : List Line) (from : ℕ) (rs : List ℕ) (end : ℕ) → length ls + 2 ≤ 2 ^ 32 → from ≤ length ls + 2 → WalksAll ls from rs end → All (IsRef (length ls + 2)) rs
refs_form ls from [] end many within w = All-nil (IsRef (length ls + 2))
refs_form ls from (r ∷ rs) end many within w =
    let one = walk_within ls from r w.0 within w.1 in
    let less = one.0 in
    let up = one.2 in
    All-cons (IsRef (length ls + 2)) r rs (omega (arith, less, up), omega (arith, less, up, many)) (refs_form ls w.0 rs end many up w.2)

claim_form : (m : Machine) (ls : List Line) (k : Claim) (end : ℕ) → IsClaimOf (game m) ls k → length (ranks_of k) < 2 ^ 32 → All (IsRef end) (references k) → IsClaim end k
claim_form m ls (win inv funs) end is many refs = (All-head (IsRef end) inv funs refs, All-tail (IsRef end) inv funs refs)
claim_form m ls (lose []) end is many refs = let none = is.0.forced in absurd none
claim_form m ls (lose (r ∷ ranks)) end is many refs = (omega arith, many, refs)

module _ (m : Machine) (wide : Bool) (c : Certificate) (is : IsTheCertificate m wide c) (name : IsTrue (is_name m.name)) (short : length (cert_text c) ≤ 67108864) where
  lines_few : length c.lines ≤ 67108864
  unfolding cert_pieces
  lines_few =
      let head = line (codes "hept-cert") (texts.version c.widths ∷ []) in
      let node = line (codes "node") (c.node ∷ []) in
      let kind = line (codes "kind") (texts.kind c.claim ∷ []) in
      let vars = line (codes "vars") (decimals (c.registers ∷ c.early ∷ c.control ∷ c.late ∷ [])) in
      let rest = texts.claim c.claim ++ line (codes "end") [] in
      let ls = texts.lines 2 c.lines in
      let first = lines_long 2 c.lines in
      let a = front_long ls rest in
      let b = behind_long (texts.controls c.widths) (ls ++ rest) in
      let d = behind_long vars (texts.controls c.widths ++ (ls ++ rest)) in
      let e = behind_long kind (vars ++ (texts.controls c.widths ++ (ls ++ rest))) in
      let f = behind_long node (kind ++ (vars ++ (texts.controls c.widths ++ (ls ++ rest)))) in
      let g = behind_long head (node ++ (kind ++ (vars ++ (texts.controls c.widths ++ (ls ++ rest))))) in
      omega (arith, first, a, b, d, e, f, g, short)

  ranks_few : length (ranks_of c.claim) ≤ 67108864
  unfolding cert_pieces
  ranks_few =
      let head = line (codes "hept-cert") (texts.version c.widths ∷ []) in
      let node = line (codes "node") (c.node ∷ []) in
      let kind = line (codes "kind") (texts.kind c.claim ∷ []) in
      let vars = line (codes "vars") (decimals (c.registers ∷ c.early ∷ c.control ∷ c.late ∷ [])) in
      let rest = texts.claim c.claim ++ line (codes "end") [] in
      let ls = texts.lines 2 c.lines in
      let first = claim_long c.claim in
      let z = front_long (texts.claim c.claim) (line (codes "end") []) in
      let a = behind_long ls rest in
      let b = behind_long (texts.controls c.widths) (ls ++ rest) in
      let d = behind_long vars (texts.controls c.widths ++ (ls ++ rest)) in
      let e = behind_long kind (vars ++ (texts.controls c.widths ++ (ls ++ rest))) in
      let f = behind_long node (kind ++ (vars ++ (texts.controls c.widths ++ (ls ++ rest)))) in
      let g = behind_long head (node ++ (kind ++ (vars ++ (texts.controls c.widths ++ (ls ++ rest))))) in
      omega (arith, first, z, a, b, d, e, f, g, short)

  cert_form : HasForm c
  cert_form =
      let form = is.form in
      let few = form.few in
      let head = is.head in
      let registers = head.registers in
      let early = head.early in
      let control = head.control in
      let late = head.late in
      let lines = is.lines in
      let widths = form.widths in
      let many = lines_few in
      let many_ranks = ranks_few in
      record {
        node = ap is_name head.node ∙ name;
        registers = omega (arith, registers, few);
        early = omega (arith, early, few);
        control = omega (arith, control, few);
        late = omega (arith, late, few);
        widths = subst AreWidths (sym head.widths) (said_short m wide (omega (arith, widths, few)));
        lines = lines_form (variables m) 2 c.lines few (omega (arith, many)) (line_at (variables m) c.lines lines.reduced);
        claim =
            claim_form m c.lines c.claim (length c.lines + 2) is.claim (omega (arith, many_ranks))
            (refs_form c.lines 2 (references c.claim) (length c.lines + 2) (omega (arith, many)) (omega arith) lines.walk);
      }

-- ---- what is written of a node

holds_of : (m : Machine) (p : Proved) → IsVerdict m p → Holds m p
holds_of m proved.Win is = is
holds_of m (proved.Lose n) is = is.forced

pub node_written : NodeWrittenLaw
node_written program n text name proof =
    let made = proof.certified in
    let c = made.certificate in
    let short = subst (λ (t : List ℕ). length t ≤ 67108864) made.text_is made.within in
    let named = ap is_name proof.is_machine.named ∙ name in
    record {
      has = record { machine = proof.machine; is_machine = proof.is_machine };
      checked =
          record {
            certificate = c;
            within = made.within;
            reads = record { form = cert_form proof.machine (is_wide_contract n.contract) c made.is_the named short; text_is = made.text_is };
            proves = made.proves;
            holds = holds_of proof.machine (verdict_of c.claim) proof.verdict;
          };
    }
