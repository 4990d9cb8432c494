-- What reading all tokens of a text tells.
use Rattle.std.proofs.Common.{◌≡◌, ℕ, suc, ◌+◌, ◌<◌, length, length-append, arith, true, false, List, [], ◌∷◌, ◌++◌, Some, refl, sym, ap, subst, ◌∙◌, append_assoc}
use Rattle.std.proofs.lemmas.List.{append-nil, append_cancel_right}
use Rattle.hp_base.specs.declared.limit.What.{What}
use Rattle.hp_base.specs.Limits.{most}
use Rattle.hp_tree.specs.declared.program.Item.{Item}
use Rattle.hp_parser.specs.declared.fault.Fault.TheVariants.{Bad, Limit}
use Rattle.hp_parser.specs.Lexemes.{Lexeme, Kinds}
use Rattle.hp_parser.specs.Relation.{Phrase}
use Rattle.hp_parser.specs.Outcomes.{Outcome, done, refused, Stops}
use Rattle.hp_parser.specs.Seen.{IsRefusal}
use Rattle.hp_parser.specs.declared.fault.Stop.{Stop}
use Rattle.hp_parser.specs.declared.fault.Stop.TheVariants as stop
use Rattle.hp_parser.specs.declared.parsing.ParseErr.{ParseErr}
use Rattle.hp_parser.specs.declared.parsing.ParseErr.TheVariants.{OutOfMemory}
use Rattle.hp_lexer.specs.declared.token.Keyword.TheVariants as word
use Rattle.hp_parser.specs.Tokens.{begins_item, keyword}
use Rattle.hp_parser.specs.Grammar.{either}
use Rattle.hp_parser.specs.ProgramGrammar.{type_declaration, node}
use Rattle.hp_parser.specs.Programs.{Begins, IsProgram, IsLongProgram, IsLongerProgram, read_program}
use Rattle.hp_parser.specs.Refusals.{IsDead, IsBad, PassesLimit, IsRefused, place_of}
use Rattle.hp_parser.proofs.Ways.{Way, Again, Course, Within}
use Rattle.hp_parser.proofs.LevelLaws.{Facts, known, expression}
use Rattle.hp_parser.proofs.Leads.{Reaches}
use Rattle.hp_parser.proofs.LiftedPrograms.{shift_is, reaches}
use Rattle.hp_parser.proofs.Rounds.{Strict}
use Rattle.hp_parser.proofs.Sound.{Sound, sound}
use Rattle.hp_parser.proofs.ProgramLaws.{expression_sound, equations_sound, ExpressionFacts, EquationsFacts, equations_known, program_way, program_sound, program_facts}

-- the way of programs, with k levels more without limits
abbrev pub whole_way : ℕ → Way (List Item)
whole_way k = program_way (Some 1000) (Some 64) (Some 64) (Some 63) 200 (201 + k) 64 (65 + k)

pub expression_facts : (k : ℕ) → ExpressionFacts 200 (201 + k) true
expression_facts k = subst (λ e. ExpressionFacts 200 e true) (shift_is 200 k) (λ mode. known mode 200 k expression)

pub equation_facts : (k : ℕ) → EquationsFacts 200 (201 + k) 64 (65 + k) true true
equation_facts k = subst (λ m. EquationsFacts 200 (201 + k) 64 m true true) (shift_is 64 k) (equations_known 200 (201 + k) 64 k (expression_facts k))

abbrev goes_program : ℕ → Kinds
goes_program k = (program_sound (Some 1000) (Some 64) (Some 64) (Some 63) 200 (201 + k) 64 (65 + k) (expression_facts k) (equation_facts k)).goes

whole_facts : (k : ℕ) → Facts begins_item (goes_program k) true (whole_way k) true true
whole_facts k = program_facts (Some 1000) (Some 64) (Some 64) (Some 63) 200 (201 + k) 64 (65 + k) (expression_facts k) (equation_facts k)

-- ---- what is read is a program, and every program is read

pub reads_program : (ts : List Lexeme) (p : List Item) → IsProgram ts p → read_program ts ≡ done p []
reads_program ts p h = ap read_program (sym (append-nil ts)) ∙ ((whole_facts 0).law refl).reads.complete ts p [] h refl

free_reads_program : (k : ℕ) (ts : List Lexeme) (p : List Item) → (whole_way k).free ts p → (whole_way k).free_read ts ≡ done p []
free_reads_program k ts p h = ap (whole_way k).free_read (sym (append-nil ts)) ∙ (whole_facts k).free_law.reads.complete ts p [] h refl

pub course : (k : ℕ) (ts : List Lexeme) → Course (whole_way k) ts (read_program ts)
course k ts = ((whole_facts k).law refl).course ts

-- ---- the same end without limits

free_done : (k : ℕ) (ts : List Lexeme) (p : List Item) (rest : List Lexeme) → read_program ts ≡ done p rest → (whole_way k).free_read ts ≡ done p rest
free_done k ts p rest e = (subst (Course (whole_way k) ts) e (course k ts)).4

free_bad : (k : ℕ) (ts rest : List Lexeme) → read_program ts ≡ refused Bad rest → (whole_way k).free_read ts ≡ refused Bad rest
free_bad k ts rest e = (subst (Course (whole_way k) ts) e (course k ts)).4

joined : (u : List Lexeme) (x : Lexeme) (v : List Lexeme) → (u ++ (x ∷ [])) ++ v ≡ u ++ (x ∷ v)
joined u x v = append_assoc u (x ∷ []) v

-- ---- refusals

-- what is left behind a program begins none
left_dead : (u : List Lexeme) (p : List Item) (x : Lexeme) → ((other : List Lexeme) → read_program (u ++ (x ∷ other)) ≡ done p (x ∷ other)) → Begins IsLongProgram (u ++ (x ∷ [])) → ⊥
left_dead u p x again (v, q, (k, h)) =
    let one : (whole_way k).free_read (u ++ (x ∷ v)) ≡ done q [] = free_reads_program k (u ++ (x ∷ v)) q (subst (λ z. (whole_way k).free z q) (joined u x v) h) in
    let two : (whole_way k).free_read (u ++ (x ∷ v)) ≡ done p (x ∷ v) = free_done k (u ++ (x ∷ v)) p (x ∷ v) (again v) in
    let both : done q [] ≡ done p (x ∷ v) = sym one ∙ two in
    absurd cc

none_dead : (u : List Lexeme) → read_program (u ++ []) ≡ refused Bad [] → (q : List Item) → IsLongProgram u q → ⊥
none_dead u e q (k, h) =
    let one : (whole_way k).free_read u ≡ done q [] = free_reads_program k u q h in
    let two : (whole_way k).free_read u ≡ refused Bad [] = ap (whole_way k).free_read (sym (append-nil u)) ∙ free_bad k (u ++ []) [] e in
    let both : done q [] ≡ refused Bad [] = sym one ∙ two in
    absurd cc

next_dead : (u : List Lexeme) (x : Lexeme) → ((other : List Lexeme) → read_program (u ++ (x ∷ other)) ≡ refused Bad (x ∷ other)) → Begins IsLongProgram (u ++ (x ∷ [])) → ⊥
next_dead u x again (v, q, (k, h)) =
    let one : (whole_way k).free_read (u ++ (x ∷ v)) ≡ done q [] = free_reads_program k (u ++ (x ∷ v)) q (subst (λ z. (whole_way k).free z q) (joined u x v) h) in
    let two : (whole_way k).free_read (u ++ (x ∷ v)) ≡ refused Bad (x ∷ v) = free_bad k (u ++ (x ∷ v)) (x ∷ v) (again v) in
    let both : done q [] ≡ refused Bad (x ∷ v) = sym one ∙ two in
    absurd cc

bad_dead : (u rest : List Lexeme) → read_program (u ++ rest) ≡ refused Bad rest → Again read_program u rest (refused Bad) → IsDead IsLongProgram u rest
bad_dead u [] e again = none_dead u e
bad_dead u (x ∷ more) e again = next_dead u x (λ other. again x more other refl)

limit_dead : (u : List Lexeme) (x : Lexeme) (what : What) → ((other : List Lexeme) → read_program (u ++ (x ∷ other)) ≡ refused (Limit what) (x ∷ other)) → Begins IsProgram (u ++ (x ∷ [])) → ⊥
limit_dead u x what again (v, q, h) =
    let one : read_program (u ++ (x ∷ v)) ≡ done q [] = reads_program (u ++ (x ∷ v)) q (subst (λ z. IsProgram z q) (joined u x v) h) in
    let both : done q [] ≡ refused (Limit what) (x ∷ v) = sym one ∙ again v in
    absurd cc

-- the tokens before a place are the ones that were reached
reached : (p : Phrase (List Item)) (ts rest u : List Lexeme) (x : Lexeme) (more : List Lexeme) → ts ≡ u ++ rest → rest ≡ x ∷ more → Reaches p ts rest → Begins p (u ++ (x ∷ []))
reached p ts rest u x more f g (v, y, others, k, e, b) =
    let front : v ≡ u = append_cancel_right v u rest (ap (λ z. v ++ z) k ∙ sym e ∙ f) in
    let next : y ∷ others ≡ x ∷ more = sym k ∙ g in
    let same : y ≡ x = cc in
    subst (λ z. Begins p (z ++ (x ∷ []))) front (subst (λ z. Begins p (v ++ (z ∷ []))) same b)

-- what an outcome tells of the tokens
abbrev pub Tells : List ℕ → List Lexeme → Outcome (List Item) → Type 0
Tells text ts (done p []) = IsProgram ts p
Tells text ts (done p (x ∷ more)) = IsBad text ts (place_of text (x ∷ more))
Tells text ts (refused Bad rest) = IsBad text ts (place_of text rest)
Tells text ts (refused (Limit what) rest) = PassesLimit ts (place_of text rest) (record { what = what; found = suc (most what) })

tells_by : (text : List ℕ) (ts : List Lexeme) (o : Outcome (List Item)) → read_program ts ≡ o → Course (whole_way 0) ts o → Tells text ts o
tells_by text ts (done p []) e (u, f, h, again, same) = subst (λ z. IsProgram z p) (sym (append-nil u) ∙ sym f) h
tells_by text ts (done p (x ∷ more)) e (u, f, h, again, same) = record {
  before = u;
  rest = x ∷ more;
  split = f;
  place = refl;
  begun = ([], p, subst (λ z. IsProgram z p) (sym (append-nil u)) h);
  dead = left_dead u p x (λ other. again x more other refl);
}
tells_by text ts (refused Bad rest) e (u, f, started, again, same) = record {
  before = u;
  rest = rest;
  split = f;
  place = refl;
  begun = started;
  dead = bad_dead u rest (subst (λ z. read_program z ≡ refused Bad rest) f e) again;
}
tells_by text ts (refused (Limit what) rest) e (u, f, started, again, (x, more, g, (v, q, h))) = record {
  before = u;
  next = x;
  more = more;
  split = f ∙ ap (λ z. u ++ z) g;
  place = ap (place_of text) g;
  found = refl;
  begun = started;
  dead = limit_dead u x what (λ other. again x more other g);
  lifted = reached (IsLongerProgram what) ts rest u x more f g (reaches what ts rest e);
  long = (v, q, (0, h));
}

pub tells : (text : List ℕ) (ts : List Lexeme) → Tells text ts (read_program ts)
tells text ts = tells_by text ts (read_program ts) refl (course 0 ts)

-- ---- what the code concludes

pub whole_program : (text : List ℕ) (ts : List Lexeme) (p : List Item) → read_program ts ≡ done p [] → IsProgram ts p
whole_program text ts p e = subst (Tells text ts) e (tells text ts)

pub only_program : (ts : List Lexeme) (p q : List Item) → read_program ts ≡ done p [] → IsProgram ts q → p ≡ q
only_program ts p q e h = let both : done p [] ≡ done q [] = sym e ∙ reads_program ts q h in cc

pub left_bad : (text : List ℕ) (ts : List Lexeme) (p : List Item) (rest : List Lexeme) → read_program ts ≡ done p rest → (rest ≡ [] → ⊥) → IsBad text ts (place_of text rest)
left_bad text ts p [] e some = absurd (some refl)
left_bad text ts p (x ∷ rest) e some = subst (Tells text ts) e (tells text ts)

pub left_none : (ts : List Lexeme) (p q : List Item) (rest : List Lexeme) → read_program ts ≡ done p rest → (rest ≡ [] → ⊥) → IsProgram ts q → ⊥
left_none ts p q rest e some h = let both : done p rest ≡ done q [] = sym e ∙ reads_program ts q h in some (cc)

pub stop_refuses : (text : List ℕ) (ts : List Lexeme) (why : Stop) (rest : List Lexeme) (e : ParseErr) → Stops why rest (read_program ts) → IsRefusal why (place_of text rest) e → IsRefused text ts e
stop_refuses text ts stop.Memory rest e s r = subst (IsRefused text ts) (sym r) tt
stop_refuses text ts (stop.Fault Bad) rest e s r = subst (IsRefused text ts) (sym r) (subst (Tells text ts) s (tells text ts))
stop_refuses text ts (stop.Fault (Limit what)) rest e s r = subst (IsRefused text ts) (sym r) (subst (Tells text ts) s (tells text ts))

pub stop_none : (text : List ℕ) (ts : List Lexeme) (why : Stop) (rest : List Lexeme) (e : ParseErr) (q : List Item) → Stops why rest (read_program ts) → IsRefusal why (place_of text rest) e → IsProgram ts q → e ≡ OutOfMemory
stop_none text ts stop.Memory rest e q s r h = r
stop_none text ts (stop.Fault Bad) rest e q s r h = absurd (let both : refused Bad rest ≡ done q [] = sym s ∙ reads_program ts q h in cc)
stop_none text ts (stop.Fault (Limit what)) rest e q s r h = absurd (let both : refused (Limit what) rest ≡ done q [] = sym s ∙ reads_program ts q h in cc)

-- ---- one item

abbrev pub item_sound : Sound Item
item_sound =
    either sound (keyword word.Type) (type_declaration sound (Some 1000) (Some 64) (Some 64) (Some 63))
    (node sound (Some 1000) (Some 64) (Some 64) (Some 63) (expression_sound 200 (201 + 0) true (expression_facts 0)) (equations_sound 200 (201 + 0) 64 (65 + 0) true true (equation_facts 0)))

abbrev pub item_way : Way Item
item_way = item_sound.way

pub item_within : Within item_sound.first item_sound.goes false item_way
item_within = item_sound.laws refl refl

strict_by : {A : Type 0} (first goes : Kinds) (w : Way A) → Within first goes false w → (ts : List Lexeme) (o : Outcome A) → Course w ts o → (a : A) (rest : List Lexeme) → o ≡ done a rest → length rest < length ts
strict_by first goes w l ts (done b other) ([], e, h, again, same) a rest f = absurd (l.reads.not_empty refl b h)
strict_by first goes w l ts (done b other) (x ∷ u, e, h, again, same) a rest f =
    let tail : other ≡ rest = cc in
    omega (arith, ap length e, length-append u other, ap length tail)
strict_by first goes w l ts (refused fault other) c a rest f = absurd cc

pub within_strict : {A : Type 0} {first goes : Kinds} (w : Way A) → Within first goes false w → Strict w.read
within_strict {first = first} {goes = goes} w l ts a rest e = strict_by first goes w l ts (w.read ts) (l.course ts) a rest e
