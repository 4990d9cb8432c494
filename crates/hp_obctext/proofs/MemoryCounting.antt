-- A checkpoint, read line by line.
use Rattle.std.proofs.Common.{◌≡◌, ◌≤◌, ◌+◌, ℕ, zero, suc, Bool, true, false, ◌||◌, ◌==◌, List, [], ◌∷◌, ◌++◌, length, ◌⊎◌, inl, inr, Result, Ok, Err, refl, sym, ap, subst, ◌∙◌, append_assoc, append-nil, arith}
use Rattle.std.specs.Prelude.{codes}
use Rattle.std.specs.Str.{bytes_eq}
use Rattle.std.proofs.lemmas.Bool.Decides.{nat_tests}
use Rattle.std.proofs.lemmas.List.{length-append}
use Rattle.hp_obc.specs.Form.{is_name}
use Rattle.hp_obctext.specs.MemoryTexts.{Ended, space, newline, is_gap, IsWord, joined, is_value, AreValues, value_lines, heading, checkpoint, IsCheckpointOf, Says}
use Rattle.hp_obctext.specs.MemoryReading.{first_word, behind, taken, begins, begins_name, is_last, is_line, begins_line}
use Rattle.hp_obctext.specs.MemoryRefusals.{Texts, Begins, WrongWord, WrongGap, TooShort, WrongEnd, IsWrong, IsCheckpoint, Lines, Named}
use Rattle.hp_obctext.proofs.MemoryWords.{word_and_behind, is_first_word, behind_ends, joined_append}
use Rattle.hp_obctext.proofs.MemoryWrong.{After, GoesOn, Examples, first_wrong, first_right, later_wrong, wrong_too}
use Rattle.hp_obctext.proofs.MemoryLines.{BehindBy, Behind, Line, line_of, lines_of, no_last, is_this, Name, Node, Version, Heading, name_named, named_name, heading_checkpoint, checkpoint_heading, are_same, this_goes, or_right}
use Rattle.hp_obctext.proofs.MemorySpelling.{name_goes, line_goes}

-- ---- lines

behind_example : Examples Behind
behind_example w = by (is_last w)
  where
    by : (d : Bool) → (es : List Ended) × BehindBy d es
    by true = ([], refl)
    by false = (value_lines [], ([], tt, refl))

abbrev TakenLine : List ℕ → Result (List ℕ) (List ℕ)
TakenLine text = taken (is_line (first_word text)) (begins_line (first_word text)) newline text

pub line_wrong : (text place : List ℕ) → TakenLine text ≡ Err place → IsWrong Lines text place
line_wrong text place e = wrong_too Line Lines lines_of line_of text place (first_wrong is_line begins_line line_goes newline Behind behind_example text place e)

-- the lines of some words
abbrev lines_before : List (List ℕ) → List Ended
lines_before [] = []
lines_before (w ∷ ws) = (w, newline) ∷ lines_before ws

-- Some words of values were read, then another line.
pub record Read (text word rest : List ℕ) (count : ℕ) : Type 0 where
  ws : List (List ℕ)
  values : AreValues ws
  number : count ≡ length ws
  line : is_line word ≡ true
  split : text ≡ joined (lines_before ws) ++ (word ++ newline ∷ rest)

pub read_first : (text word rest : List ℕ) → word ≡ first_word text → TakenLine text ≡ Ok rest → Read text word rest 0
read_first text word rest e h =
    let r = first_right (is_line (first_word text)) (begins_line (first_word text)) newline text rest h in
    record { ws = []; values = tt; number = refl; line = ap is_line e ∙ r.0; split = r.1 ∙ ap (λ w. w ++ newline ∷ rest) (sym e) }

or_second : (a b : Bool) → (a || b) ≡ true → a ≡ false → b ≡ true
or_second true b h k = absurd cc
or_second false b h k = h

-- one more value
values_more : (ws : List (List ℕ)) (w : List ℕ) → AreValues ws → is_value w ≡ true → AreValues (ws ++ w ∷ [])
values_more [] w h k = (k, tt)
values_more (v ∷ ws) w h k = (h.0, values_more ws w h.1 k)

lines_more : (ws : List (List ℕ)) (w text : List ℕ) → joined (lines_before ws) ++ (w ++ newline ∷ text) ≡ joined (lines_before (ws ++ w ∷ [])) ++ text
lines_more [] w text = sym (append_assoc w (newline ∷ []) text)
lines_more (v ∷ ws) w text =
    append_assoc v (newline ∷ joined (lines_before ws)) (w ++ newline ∷ text) ∙ ap (λ t. v ++ newline ∷ t) (lines_more ws w text)
    ∙ sym (append_assoc v (newline ∷ joined (lines_before (ws ++ w ∷ []))) text)

pub read_next : (text word rest next more : List ℕ) (count : ℕ) → Read text word rest count → is_last word ≡ false → next ≡ first_word rest → TakenLine rest ≡ Ok more → Read text next more (count + 1)
read_next text word rest next more count r l e h =
    let n = first_right (is_line (first_word rest)) (begins_line (first_word rest)) newline rest more h in
    let value = or_second (is_last word) (is_value word) r.line l in
    let len = length-append r.ws (word ∷ []) in
    let num = r.number in
    record {
      ws = r.ws ++ word ∷ [];
      values = values_more r.ws word r.values value;
      number = omega (arith, len, num);
      line = ap is_line e ∙ n.0;
      split = r.split ∙ lines_more r.ws word rest ∙ ap (λ t. joined (lines_before (r.ws ++ word ∷ [])) ++ t) (n.1 ∙ ap (λ w. w ++ newline ∷ more) (sym e));
    }

-- what is wrong behind lines of values
behind_values : (ws : List (List ℕ)) (rest place : List ℕ) → AreValues ws → IsWrong Lines rest place → IsWrong Lines (joined (lines_before ws) ++ rest) place
behind_values [] rest place h w = w
behind_values (v ∷ ws) rest place h w =
    let inner = behind_values ws rest place h.1 w in
    let text = joined (lines_before ws) ++ rest in
    let here : IsWrong (Behind v) text place = subst (λ d. IsWrong (BehindBy d) text place) (sym (no_last v h.0)) inner in
    wrong_too Line Lines lines_of line_of (joined (lines_before (v ∷ ws)) ++ rest) place
    (later_wrong is_line newline Behind v text (joined (lines_before (v ∷ ws)) ++ rest) (or_right (is_last v) (is_value v) h.0) (append_assoc v (newline ∷ joined (lines_before ws)) rest) place here)

pub read_wrong : (text word rest place : List ℕ) (count : ℕ) → Read text word rest count → is_last word ≡ false → TakenLine rest ≡ Err place → IsWrong Lines text place
read_wrong text word rest place count r l h =
    let value = or_second (is_last word) (is_value word) r.line l in
    let w = behind_values (r.ws ++ word ∷ []) rest place (values_more r.ws word r.values value) (line_wrong rest place h) in
    subst (λ t. IsWrong Lines t place) (sym (r.split ∙ lines_more r.ws word rest)) w

lines_end : (ws : List (List ℕ)) → joined (lines_before ws) ++ (codes "end" ++ newline ∷ []) ≡ joined (value_lines ws)
lines_end [] = refl
lines_end (w ∷ ws) = append_assoc w (newline ∷ joined (lines_before ws)) (codes "end" ++ newline ∷ []) ∙ ap (λ t. w ++ newline ∷ t) (lines_end ws)

pub read_end : (text word rest : List ℕ) (count : ℕ) → Read text word rest count → is_last word ≡ true → rest ≡ [] → (ws : List (List ℕ)) × (AreValues ws × (text ≡ joined (value_lines ws)) × (count ≡ length ws))
read_end text word rest count r l e =
    (r.ws, (r.values, r.split ∙ ap (λ w. joined (lines_before r.ws) ++ (w ++ newline ∷ rest)) (are_same word (codes "end") l) ∙ ap (λ t. joined (lines_before r.ws) ++ (codes "end" ++ newline ∷ t)) e ∙ lines_end r.ws, r.number))

-- behind the last line nothing stands
nothing_more : (rest : List ℕ) → 1 ≤ length rest → IsWrong (BehindBy true) rest rest
nothing_more rest s = by (behind rest) refl
  where
    no_more : (front : Ended) (es : List Ended) → front ∷ es ≡ [] → ⊥
    no_more front es e = cc

    by : (b : List ℕ) → behind rest ≡ b → IsWrong (BehindBy true) rest rest
    by [] e =
        let all : rest ≡ first_word rest = word_and_behind rest ∙ ap (λ z. first_word rest ++ z) e ∙ append-nil (first_word rest) in
        inr (inr (inr (record {
          front = [];
          split = refl;
          some = s;
          is_word = subst IsWord (sym all) (is_first_word rest);
          begun = ([], refl);
          dead = λ cut g b. no_more (rest ++ cut, g) b.0 b.1;
        })))
    by (g ∷ z) e = inl (record {
      front = [];
      word = first_word rest;
      gap = g;
      behind = z;
      split = refl;
      rest_is = word_and_behind rest ∙ ap (λ t. first_word rest ++ t) e;
      is_word = is_first_word rest;
      ends = behind_ends rest g z e;
      begun = ([], refl);
      dead = λ other b. no_more (first_word rest, other) b.0 b.1;
    })

pub read_more : (text word rest : List ℕ) (count : ℕ) → Read text word rest count → is_last word ≡ true → 1 ≤ length rest → IsWrong Lines text rest
read_more text word rest count r l s =
    let here : IsWrong (Behind word) rest rest = subst (λ d. IsWrong (BehindBy d) rest rest) (sym l) (nothing_more rest s) in
    let last = wrong_too Line Lines lines_of line_of (word ++ newline ∷ rest) rest (later_wrong is_line newline Behind word rest (word ++ newline ∷ rest) r.line refl rest here) in
    subst (λ t. IsWrong Lines t rest) (sym r.split) (behind_values r.ws (word ++ newline ∷ rest) rest r.values last)

-- ---- the heading

some_name : (es : List Ended) × Name es
some_name = ((codes "x", newline) ∷ value_lines [], (refl, refl, ([], tt, refl)))

some_node : (es : List Ended) × Node es
some_node = ((codes "node", space) ∷ some_name.0, (refl, refl, some_name.1))

some_version : (es : List Ended) × Version es
some_version = ((codes "1", newline) ∷ some_node.0, (refl, refl, some_node.1))

abbrev TakenFixed : List ℕ → ℕ → List ℕ → Result (List ℕ) (List ℕ)
TakenFixed word gap text = taken (bytes_eq (first_word text) word) (begins (first_word text) word) gap text

heading_wrong : (text place : List ℕ) → IsWrong Heading text place → IsWrong IsCheckpoint text place
heading_wrong = wrong_too Heading IsCheckpoint heading_checkpoint checkpoint_heading

-- a word that was taken, and what is wrong behind it
fixed_right : (word : List ℕ) (gap : ℕ) (text rest : List ℕ) → TakenFixed word gap text ≡ Ok rest → text ≡ word ++ gap ∷ rest
fixed_right word gap text rest h =
    let r = first_right (bytes_eq (first_word text) word) (begins (first_word text) word) gap text rest h in
    r.1 ∙ ap (λ w. w ++ gap ∷ rest) (are_same (first_word text) word r.0)

fixed_later : (word : List ℕ) (gap : ℕ) (texts : Texts) (text rest place : List ℕ) → bytes_eq word word ≡ true → TakenFixed word gap text ≡ Ok rest → IsWrong texts rest place → IsWrong (After (is_this word) gap (λ w. texts)) text place
fixed_later word gap texts text rest place s h w = later_wrong (is_this word) gap (λ w. texts) word rest text s (fixed_right word gap text rest h) place w

pub heading_first : (text place : List ℕ) → TakenFixed (codes "hept-mem") space text ≡ Err place → IsWrong IsCheckpoint text place
heading_first text place h =
    heading_wrong text place (first_wrong (is_this (codes "hept-mem")) (λ w. begins w (codes "hept-mem")) (this_goes (codes "hept-mem")) space (λ w. Version) (λ w. some_version) text place h)

pub heading_second : (text a place : List ℕ) → TakenFixed (codes "hept-mem") space text ≡ Ok a → TakenFixed (codes "1") newline a ≡ Err place → IsWrong IsCheckpoint text place
heading_second text a place h k =
    heading_wrong text place
    (fixed_later (codes "hept-mem") space Version text a place refl h (first_wrong (is_this (codes "1")) (λ w. begins w (codes "1")) (this_goes (codes "1")) newline (λ w. Node) (λ w. some_node) a place k))

pub heading_third : (text a b place : List ℕ) → TakenFixed (codes "hept-mem") space text ≡ Ok a → TakenFixed (codes "1") newline a ≡ Ok b → TakenFixed (codes "node") space b ≡ Err place → IsWrong IsCheckpoint text place
heading_third text a b place h k l =
    heading_wrong text place
    (fixed_later (codes "hept-mem") space Version text a place refl h
    (fixed_later (codes "1") newline Node a b place refl k (first_wrong (is_this (codes "node")) (λ w. begins w (codes "node")) (this_goes (codes "node")) space (λ w. Name) (λ w. some_name) b place l)))

pub heading_behind : (text a b rest place : List ℕ) → TakenFixed (codes "hept-mem") space text ≡ Ok a → TakenFixed (codes "1") newline a ≡ Ok b → TakenFixed (codes "node") space b ≡ Ok rest →
    IsWrong Named rest place → IsWrong IsCheckpoint text place
heading_behind text a b rest place h k l w =
    heading_wrong text place
    (fixed_later (codes "hept-mem") space Version text a place refl h
    (fixed_later (codes "1") newline Node a b place refl k (fixed_later (codes "node") space Name b rest place refl l (wrong_too Named Name named_name name_named rest place w))))

pub heading_read : (text a b rest : List ℕ) → TakenFixed (codes "hept-mem") space text ≡ Ok a → TakenFixed (codes "1") newline a ≡ Ok b → TakenFixed (codes "node") space b ≡ Ok rest → text ≡ joined heading ++ rest
heading_read text a b rest h k l =
    fixed_right (codes "hept-mem") space text a h ∙ ap (λ t. codes "hept-mem" ++ space ∷ t) (fixed_right (codes "1") newline a b k ∙ ap (λ t. codes "1" ++ newline ∷ t) (fixed_right (codes "node") space b rest l))

-- ---- the name

abbrev TakenName : List ℕ → Result (List ℕ) (List ℕ)
TakenName text = taken (is_name (first_word text)) (begins_name (first_word text)) newline text

pub name_wrong : (text place : List ℕ) → TakenName text ≡ Err place → IsWrong Named text place
name_wrong text place h =
    wrong_too Name Named name_named named_name text place (first_wrong is_name begins_name name_goes newline (λ w. Lines) (λ w. (value_lines [], ([], tt, refl))) text place h)

pub name_right : (text name rest : List ℕ) → name ≡ first_word text → TakenName text ≡ Ok rest → (is_name name ≡ true) × (text ≡ name ++ newline ∷ rest)
name_right text name rest e h =
    let r = first_right (is_name (first_word text)) (begins_name (first_word text)) newline text rest h in
    (ap is_name e ∙ r.0, r.1 ∙ ap (λ w. w ++ newline ∷ rest) (sym e))

pub name_later : (text name rest place : List ℕ) → name ≡ first_word text → TakenName text ≡ Ok rest → IsWrong Lines rest place → IsWrong Named text place
name_later text name rest place e h w =
    let r = name_right text name rest e h in
    wrong_too Name Named name_named named_name text place (later_wrong is_name newline (λ w. Lines) name rest text r.0 r.1 place w)

pub says : (text rest name lines : List ℕ) (ws : List (List ℕ)) → text ≡ joined heading ++ rest → rest ≡ name ++ newline ∷ lines → is_name name ≡ true → AreValues ws → lines ≡ joined (value_lines ws) → Says text name ws
says text rest name lines ws p q n v l =
    record {
      words = checkpoint name ws;
      checkpoint_is = record { node = n; values = v; words = refl };
      text_is = p ∙ ap (λ t. joined heading ++ t) (q ∙ ap (λ t. name ++ newline ∷ t) l);
    }

-- ---- whether there are bytes

pub no_bytes : (text : List ℕ) → (length text == 0) ≡ true → text ≡ []
no_bytes [] h = refl
no_bytes (b ∷ text) h = absurd (grind (arith, nat_tests))

pub some_bytes : (text : List ℕ) → (length text == 0) ≡ false → 1 ≤ length text
some_bytes [] h = absurd cc
some_bytes (b ∷ text) h = omega arith
