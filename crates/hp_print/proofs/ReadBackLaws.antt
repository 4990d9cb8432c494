-- The canonical text of a program is read back.
use Rattle.std.proofs.Common.{◌≡◌, ℕ, ◌+◌, ◌-◌, ◌≤◌, List, [], ◌∷◌, ◌++◌, length, take, drop, slice_range, Some, refl, sym, ap, subst, ◌∙◌, arith}
use Rattle.std.proofs.lemmas.List.{append_assoc, append-nil, take_at, drop_at}
use Rattle.hp_base.specs.Limits.{most}
use Rattle.hp_base.specs.declared.limit.What.TheVariants.{Size}
use Rattle.hp_lexer.specs.Lexing.{token_behind, Piece, Reads, AreTokensOf}
use Rattle.hp_lexer.specs.Written.{Written, written_text, written_tokens}
use Rattle.hp_lexer.specs.declared.token.Token.{Token}
use Rattle.hp_lexer.proofs.Printed.{read_again}
use Rattle.hp_parser.specs.Lexemes.{lexeme, lexemes}
use Rattle.hp_parser.specs.Programs.{IsProgram}
use Rattle.hp_tree.specs.declared.program.Item.{Item}
use Rattle.hp_print.specs.Places.{bare_program}
use Rattle.hp_print.specs.ProgramTokens.{program_tokens, canonical_text}
use Rattle.hp_print.specs.ReadBack.{IsOfText, IsReadBack}
use Rattle.hp_print.proofs.Can.{Spell}
use Rattle.hp_print.proofs.Every.{IsSpelled, Spelled}
use Rattle.hp_print.proofs.FoundDeclarations.{each-append}
use Rattle.hp_print.proofs.FoundPrograms.{program-found}
use Rattle.hp_print.proofs.Placeless.{program-bare}
use Rattle.hp_print.proofs.ReadPrograms.{program-read}
use Rattle.hp_print.proofs.Writable.{Writable}

-- what stands between a front and a rest
slice-at : (front w rest : List ℕ) → slice_range (front ++ (w ++ rest)) (length front) (length front + length w) ≡ w
slice-at front w rest =
    let n : length front + length w - length front ≡ length w = omega arith in
    ap (λ m. take m (drop (length front) (front ++ (w ++ rest)))) n ∙ ap (take (length w)) (drop_at front (w ++ rest) (length front) refl) ∙ take_at w rest (length w) refl

-- ---- the tokens that are written are spelled as they are written

pub spell-at : (ws : List Written) (front text : List ℕ) → text ≡ front ++ written_text ws → Spell (lexemes text (written_tokens front ws)) ws
spell-at [] front text e = tt
spell-at (w ∷ ws) front text e =
    let rest = w.behind ∷ written_text ws in
    let bytes : slice_range text (length front) (length front + length w.bytes) ≡ w.bytes =
    ap (λ z. slice_range z (length front) (length front + length w.bytes)) e ∙ slice-at front w.bytes rest in
    let next : text ≡ (front ++ (w.bytes ++ w.behind ∷ [])) ++ written_text ws =
    e ∙ sym (append_assoc front (w.bytes ++ w.behind ∷ []) (written_text ws) ∙ ap (λ z. front ++ z) (append_assoc w.bytes (w.behind ∷ []) (written_text ws))) in
    (refl, bytes, spell-at ws (front ++ (w.bytes ++ w.behind ∷ [])) text next)

-- ---- the tokens of a text are spelled and within their limits

piece-spelled : (text front w rest : List ℕ) (next : List Token) → text ≡ front ++ (w ++ rest) → Piece front w rest next → Spelled (lexemes text next)
piece-spelled text front w rest next e (Piece.blank_piece b h) = tt
piece-spelled text front w rest next e (Piece.comment_piece c) = tt
piece-spelled text front w rest next e (Piece.token_piece kind t l) =
    let bytes : slice_range text (length front) (length front + length w) ≡ w = ap (λ z. slice_range z (length front) (length front + length w)) e ∙ slice-at front w rest in
    (subst (λ z. IsSpelled (record { kind = kind; bytes = z; span = (token_behind front kind w).span })) (sym bytes) (t.spelled, l), tt)

lexemes-append : (text : List ℕ) (ts us : List Token) → lexemes text (ts ++ us) ≡ lexemes text ts ++ lexemes text us
lexemes-append text [] us = refl
lexemes-append text (t ∷ ts) us = ap (λ z. lexeme text t ∷ z) (lexemes-append text ts us)

pub all-spelled : (text front : List ℕ) (tokens : List Token) (rest : List ℕ) → text ≡ front ++ rest → Reads front tokens rest → Spelled (lexemes text tokens)
all-spelled text front tokens rest e (Reads.nothing) = tt
all-spelled text front tokens rest e (Reads.more {front = f} {w = w} {tokens = ts} {next = next} r p) =
    let whole : text ≡ f ++ (w ++ rest) = e ∙ append_assoc f w rest in
    subst Spelled (sym (lexemes-append text ts next))
    (each-append IsSpelled (lexemes text ts) (lexemes text next) (all-spelled text f ts (w ++ rest) whole r) (piece-spelled text f w rest next whole p))

-- ---- the law

pub same-tokens : (p q : List Item) → bare_program p ≡ bare_program q → program_tokens p ≡ program_tokens q
same-tokens p q e = sym (program-bare p) ∙ ap program_tokens e ∙ program-bare q

pub read-back : (p : List Item) → IsOfText p → length (canonical_text p) ≤ most Size → IsReadBack p (canonical_text p)
read-back p o l =
    let ts : program_tokens o.tree ≡ program_tokens p = same-tokens o.tree p o.same in
    let spelled = all-spelled o.text o.text o.tokens [] (sym (append-nil o.text)) o.lexed in
    let found = program-found 199 63 (Some 1000) (Some 64) (Some 64) (Some 63) (omega arith) (omega arith) (lexemes o.text o.tokens) o.tree spelled o.parsed in
    let written = written_tokens [] (program_tokens p) in
    let can = program-read 200 64 (Some 1000) (Some 64) (Some 64) (Some 63) o.tree found.0 in
    let at = can.at (lexemes (canonical_text p) written) (subst (λ z. Spell (lexemes (canonical_text p) written) z) (sym ts) (spell-at (program_tokens p) [] (canonical_text p) refl)) in
    record {
      tokens = written;
      tree = at.0;
      lexed = read_again (program_tokens p) (subst Writable ts found.1) l;
      parsed = at.1;
      same = at.2 ∙ o.same;
    }

-- a program that is parsed is that of its text
pub parsed-read-back : (text : List ℕ) (tokens : List Token) (program : List Item) → AreTokensOf text tokens → IsProgram (lexemes text tokens) program
    → length (canonical_text program) ≤ most Size → IsReadBack program (canonical_text program)
parsed-read-back text tokens program a p = read-back program (record { text = text; tokens = tokens; tree = program; lexed = a.read; parsed = p; same = refl })
