-- The tokens of a text are spelled, so its program may be written, and its names are plain.
use Rattle.std.proofs.Common.{◌≡◌, ℕ, ◌+◌, ◌-◌, List, [], ◌∷◌, ◌++◌, length, take, drop, slice_range, Some, refl, sym, ap, subst, ◌∙◌, arith}
use Rattle.std.proofs.lemmas.List.{append_assoc, append-nil, take_at, drop_at}
use Rattle.hp_lexer.specs.Lexing.{token_behind, Piece, Reads}
use Rattle.hp_lexer.specs.declared.token.Token.{Token}
use Rattle.hp_parser.specs.Lexemes.{lexeme, lexemes}
use Rattle.hp_parser.specs.Programs.{IsProgram}
use Rattle.hp_tree.specs.declared.program.Item.{Item}
use Rattle.hp_print.specs.ProgramTokens.{program_tokens}
use Rattle.hp_print.proofs.Every.{IsSpelled, Spelled}
use Rattle.hp_print.proofs.FoundDeclarations.{each-append}
use Rattle.hp_print.proofs.FoundPrograms.{program-found}
use Rattle.hp_print.proofs.Placeless.{program-bare}
use Rattle.hp_print.proofs.Readable.{GoodProgram}
use Rattle.hp_print.proofs.Writable.{Writable}
use Rattle.law_judged.specs.Plain.Laws.{PlainNamesLaw, MergesLaw, OfTextLaw, ReplacedTextLaw}
use Rattle.law_judged.proofs.ReplacedLemmas.JudgedReplaced.{judged_replaced}
use Rattle.law_judged.proofs.PlainLemmas.Plain.{program_plain}
use Rattle.law_judged.proofs.PlainLemmas.Full.{items_full}
use Rattle.law_judged.proofs.PlainLemmas.CallsOfTexts.{few_calls}

-- what stands between a front and a rest
slice_at : (front w rest : List ℕ) → slice_range (front ++ (w ++ rest)) (length front) (length front + length w) ≡ w
slice_at front w rest =
    let n : length front + length w - length front ≡ length w = omega arith in
    ap (λ m. take m (drop (length front) (front ++ (w ++ rest)))) n ∙ ap (take (length w)) (drop_at front (w ++ rest) (length front) refl) ∙ take_at w rest (length w) refl

piece_spelled : (text front w rest : List ℕ) (next : List Token) → text ≡ front ++ (w ++ rest) → Piece front w rest next → Spelled (lexemes text next)
piece_spelled text front w rest next e (Piece.blank_piece b h) = tt
piece_spelled text front w rest next e (Piece.comment_piece c) = tt
piece_spelled text front w rest next e (Piece.token_piece kind t l) =
    let bytes : slice_range text (length front) (length front + length w) ≡ w = ap (λ z. slice_range z (length front) (length front + length w)) e ∙ slice_at front w rest in
    (subst (λ z. IsSpelled (record { kind = kind; bytes = z; span = (token_behind front kind w).span })) (sym bytes) (t.spelled, l), tt)

lexemes_append : (text : List ℕ) (ts us : List Token) → lexemes text (ts ++ us) ≡ lexemes text ts ++ lexemes text us
lexemes_append text [] us = refl
lexemes_append text (t ∷ ts) us = ap (λ z. lexeme text t ∷ z) (lexemes_append text ts us)

all_spelled : (text front : List ℕ) (tokens : List Token) (rest : List ℕ) → text ≡ front ++ rest → Reads front tokens rest → Spelled (lexemes text tokens)
all_spelled text front tokens rest e (Reads.nothing) = tt
all_spelled text front tokens rest e (Reads.more {front = f} {w = w} {tokens = ts} {next = next} r p) =
    let whole : text ≡ f ++ (w ++ rest) = e ∙ append_assoc f w rest in
    subst Spelled (sym (lexemes_append text ts next))
    (each-append IsSpelled (lexemes text ts) (lexemes text next) (all_spelled text f ts (w ++ rest) whole r) (piece_spelled text f w rest next whole p))

pub found_of : (text : List ℕ) (tokens : List Token) (program : List Item) → Reads text tokens [] → IsProgram (lexemes text tokens) program → GoodProgram 200 64 (Some 1000) (Some 64) (Some 64) (Some 63) program × Writable (program_tokens program)
found_of text tokens program r p =
    program-found 199 63 (Some 1000) (Some 64) (Some 64) (Some 63) (omega arith) (omega arith) (lexemes text tokens) program (all_spelled text text tokens [] (sym (append-nil text)) r) p

pub names_plain : PlainNamesLaw
names_plain p o =
    let ts : program_tokens o.tree ≡ program_tokens p = sym (program-bare o.tree) ∙ ap program_tokens o.same ∙ program-bare p in
    program_plain p (subst Writable ts (found_of o.text o.tokens o.tree o.lexed o.parsed).1)

pub merges_full : MergesLaw
merges_full text tokens program a p = items_full 200 64 (Some 64) (Some 64) (Some 63) program (found_of text tokens program a.read p).0.0

pub of_text : OfTextLaw
of_text text tokens program a p = record { text = text; tokens = tokens; tree = program; lexed = a.read; parsed = p; same = refl }

pub text_replaced : ReplacedTextLaw
text_replaced text tokens program a p n t d l =
    judged_replaced program n t d l (merges_full text tokens program a p) (names_plain program (of_text text tokens program a p)) (few_calls text tokens program a p)
