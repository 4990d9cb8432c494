-- What texts say, step by step.
use Rattle.std.specs.Prelude.{Result, Ok, Err, IfOk}
use Rattle.std.proofs.Common.{◌≡◌, ℕ, zero, suc, ◌+◌, ◌<◌, ◌≤◌, min, Bool, true, false, if◌then◌else◌, List, [], ◌∷◌, ◌++◌, map, length, drop, get_or, codes, Some, refl, sym, ap, ◌∙◌, arith}
use Rattle.std.specs.Str.{bytes_eq}
use Rattle.std.proofs.Math.Numerals.{add-one}
use Rattle.std.proofs.lemmas.Slice.Eq.{bytes_eq-Decides}
use Rattle.hp_base.specs.declared.ty.Const.{Const}
use Rattle.hp_base.specs.declared.ty.Ty.{Ty}
use Rattle.hp_base.specs.declared.ty.Ty.TheVariants as ty
use Rattle.hp_obc.specs.declared.command.Cmd.{Cmd}
use Rattle.hp_obc.specs.declared.machine.Var.{Var}
use Rattle.hp_obc.specs.CommandView.{cmd_seen}
use Rattle.hp_obc.specs.Commands.{Cmds, cmds_of, arms_of}
use Rattle.hp_obc.specs.Form.{scope, kind_in}
use Rattle.hp_obc.specs.Machines.{ObcType, Machine}
use Rattle.hp_obc.specs.Sizes.{size_of_cmds, size_of_cmd, size_of_arms}
use Rattle.hp_obc.specs.Values.{kind_of, enum_from}
use Rattle.hp_obctext.specs.Files.{each, const_word, step_words, steps_words, branches_words, machine_words}
use Rattle.hp_obctext.specs.Found.{labels_for, named, text_known, var_entries, type_entries}
use Rattle.hp_base.specs.Known.Known.{lookup}
use Rattle.hp_obctext.specs.Labels.{labels_of, said, said_by, said_in, text_by, text_of}
use Rattle.hp_obctext.specs.Words.{Word, leading, fixed, with_word, with_words, printed}
use Rattle.hp_obctext.proofs.Writing.{words_none, words_next, words_more, drop-next, drop-end}

size-positive : (cs : List Cmd) → 0 < size_of_cmds (cmds_of (map cmd_seen cs))
size-positive [] = omega arith
size-positive (c ∷ cs) = omega (arith, size-positive cs)

pub size-at_cmd : (cs : List Cmd) (i : ℕ) (d : Cmd) → i < length cs → size_of_cmd (cmd_seen (get_or cs i d)) < size_of_cmds (cmds_of (map cmd_seen cs))
size-at_cmd [] i d h = absurd (omega arith)
size-at_cmd (c ∷ cs) zero d h = omega (arith, size-positive cs)
size-at_cmd (c ∷ cs) (suc i) d h = omega (arith, size-at_cmd cs i d (omega arith))

pub size-at_arm : (arms : List Cmds) (i : ℕ) (d : Cmds) → i < length arms → size_of_cmds (get_or arms i d) ≤ size_of_arms (arms_of arms)
size-at_arm [] i d h = absurd (omega arith)
size-at_arm (c ∷ arms) zero d h = omega arith
size-at_arm (c ∷ arms) (suc i) d h = omega (arith, size-at_arm arms i d (omega arith))

module _ (labels : List ℕ → List Const) (text : List ℕ) where
  pub steps-next : (cs : List Cmd) (i : ℕ) (c : Cmd) → i < length cs → c ≡ get_or cs i c →
      with_words text (steps_words (said labels (cmds_of (map cmd_seen (drop i cs))))) ≡ with_words (with_words text (step_words (said_by labels (cmd_seen c)))) (steps_words (said labels (cmds_of (map cmd_seen (drop (i + 1) cs)))))
  steps-next cs i c h p =
      ap (λ rest. with_words text (steps_words (said labels (cmds_of (map cmd_seen rest))))) (drop-next cs i c h p)
      ∙ words_more text (step_words (said_by labels (cmd_seen c))) (steps_words (said labels (cmds_of (map cmd_seen (drop (i + 1) cs)))))

  arms-both : (c : Const) (cs : List Const) (a : Cmds) (arms : List Cmds) →
      with_words text (branches_words (said_in labels (c ∷ cs) (arms_of (a ∷ arms)))) ≡ with_words (with_words (with_word (with_word text (leading (codes "|"))) (const_word c)) (steps_words (said labels a))) (branches_words (said_in labels cs (arms_of arms)))
  arms-both c cs a arms =
      words_more text (leading (codes "|") ∷ const_word c ∷ steps_words (said labels a)) (branches_words (said_in labels cs (arms_of arms)))
      ∙ ap (λ t. with_words t (branches_words (said_in labels cs (arms_of arms))))
      (words_next text (leading (codes "|")) (const_word c ∷ steps_words (said labels a)) ∙ words_next (with_word text (leading (codes "|"))) (const_word c) (steps_words (said labels a)))

  arms-step : (cs : List Const) (arms : List Cmds) (i : ℕ) (d : Const) (a : Cmds) → i < min (length arms) (length cs) → a ≡ get_or arms i a →
      with_words text (branches_words (said_in labels (drop i cs) (arms_of (drop i arms))))
      ≡ with_words (with_words (with_word (with_word text (leading (codes "|"))) (const_word (get_or cs i d))) (steps_words (said labels a))) (branches_words (said_in labels (drop (suc i) cs) (arms_of (drop (suc i) arms))))
  arms-step [] arms i d a h p = absurd (omega arith)
  arms-step (c ∷ cs) [] i d a h p = absurd (omega arith)
  arms-step (c ∷ cs) (b ∷ arms) zero d a h p = arms-both c cs b arms ∙ ap (λ z. with_words (with_words (with_word (with_word text (leading (codes "|"))) (const_word c)) (steps_words (said labels z))) (branches_words (said_in labels cs (arms_of arms)))) (sym p)
  arms-step (c ∷ cs) (b ∷ arms) (suc i) d a h p = arms-step cs arms i d a (omega arith) p

  pub arms-next : (cs : List Const) (arms : List Cmds) (i : ℕ) (d : Const) (a : Cmds) → i < min (length arms) (length cs) → a ≡ get_or arms i a →
      with_words text (branches_words (said_in labels (drop i cs) (arms_of (drop i arms))))
      ≡ with_words (with_words (with_word (with_word text (leading (codes "|"))) (const_word (get_or cs i d))) (steps_words (said labels a))) (branches_words (said_in labels (drop (i + 1) cs) (arms_of (drop (i + 1) arms))))
  arms-next cs arms i d a h p = rw add-one (arms-step cs arms i d a h p)

  pub arms-end : (cs : List Const) (arms : List Cmds) (i : ℕ) → min (length arms) (length cs) ≤ i → with_words text (branches_words (said_in labels (drop i cs) (arms_of (drop i arms)))) ≡ text
  arms-end [] arms i h = ap (λ cs. with_words text (branches_words (said_in labels cs (arms_of (drop i arms))))) (drop-end [] i (omega arith)) ∙ words_none text
  arms-end (c ∷ cs) [] i h = none (drop i (c ∷ cs)) ∙ words_none text
    where
      none : (ls : List Const) → with_words text (branches_words (said_in labels ls (arms_of (drop i [])))) ≡ with_words text []
      none [] = ap (λ (bs : List Cmds). with_words text (branches_words (said_in labels [] (arms_of bs)))) (drop-end [] i (omega arith))
      none (l ∷ ls) = ap (λ (bs : List Cmds). with_words text (branches_words (said_in labels (l ∷ ls) (arms_of bs)))) (drop-end [] i (omega arith))
  arms-end (c ∷ cs) (b ∷ arms) zero h = absurd (omega arith)
  arms-end (c ∷ cs) (b ∷ arms) (suc i) h = arms-end cs arms i (omega arith)

-- ---- machines

module _ (types : List (List ℕ × ObcType)) (text : List ℕ) where
  pub machines-next : (ms : List Machine) (i : ℕ) (m : Machine) → i < length ms → m ≡ get_or ms i m →
      with_words text (each machine_words (map (text_known types) (drop i ms))) ≡ with_words (with_words text (machine_words (text_known types m))) (each machine_words (map (text_known types) (drop (i + 1) ms)))
  machines-next ms i m h p =
      ap (λ rest. with_words text (each machine_words (map (text_known types) rest))) (drop-next ms i m h p)
      ∙ words_more text (machine_words (text_known types m)) (each machine_words (map (text_known types) (drop (i + 1) ms)))

flip : (x y : List ℕ) → bytes_eq x y ≡ bytes_eq y x
flip x y = by (bytes_eq x y) (bytes_eq y x) refl refl
  where
    by : (d e : Bool) → bytes_eq x y ≡ d → bytes_eq y x ≡ e → d ≡ e
    by true true p q = refl
    by false false p q = refl
    by true false p q = let r : bytes_eq y x ≡ true = (bytes_eq-Decides y x).1 (sym ((bytes_eq-Decides x y).0 p)) in cc
    by false true p q = let r : bytes_eq x y ≡ true = (bytes_eq-Decides x y).1 (sym ((bytes_eq-Decides y x).0 q)) in cc

pub enum_found : (n : ℕ) (types : List ObcType) (x : List ℕ) → named (lookup (type_entries types) x) ≡ labels_of (enum_from n types x)
enum_found n [] x = refl
enum_found n (t ∷ types) x = by (bytes_eq x t.name) (bytes_eq t.name x) (flip x t.name) (enum_found (suc n) types x)
  where
    by : (d e : Bool) → d ≡ e → named (lookup (type_entries types) x) ≡ labels_of (enum_from (suc n) types x) → named (if d then Some t else lookup (type_entries types) x) ≡ labels_of (if e then Some (Rattle.hp_base.specs.Kinds.Constructors n t.cons) else enum_from (suc n) types x)
    by true true p rest = refl
    by false false p rest = rest
    by true false p rest = absurd cc
    by false true p rest = absurd cc

module _ (types : List ObcType) (known : List (List ℕ × ObcType)) (same : (x : List ℕ) → lookup known x ≡ lookup (type_entries types) x) where
  type_found : (t : Ty) → labels_for known (Some t) ≡ labels_of (kind_of types t)
  type_found ty.Bool = refl
  type_found ty.Int = refl
  type_found (ty.Enum x) = ap named (same x) ∙ enum_found 0 types x

  labels_found : (vars : List Var) (x : List ℕ) → labels_for known (lookup (var_entries vars) x) ≡ labels_of (kind_in types vars x)
  labels_found [] x = refl
  labels_found (v ∷ vars) x = by (bytes_eq x v.name) (bytes_eq v.name x) (flip x v.name) (labels_found vars x)
    where
      by : (d e : Bool) → d ≡ e → labels_for known (lookup (var_entries vars) x) ≡ labels_of (kind_in types vars x) → labels_for known (if d then Some v.ty else lookup (var_entries vars) x) ≡ labels_of (if e then kind_of types v.ty else kind_in types vars x)
      by true true p rest = type_found v.ty
      by false false p rest = rest
      by true false p rest = absurd cc
      by false true p rest = absurd cc

  texts_found : (m : Machine) → text_known known m ≡ text_of types m
  texts_found m = ap (λ (labels : List ℕ → List Const). text_by labels m) (λ i x. labels_found (scope m) x i)

  -- the machines' texts are found
  pub all_found : (ms : List Machine) → map (text_known known) ms ≡ map (text_of types) ms
  all_found ms = ap (λ f. map f ms) (λ i m. texts_found m i)

-- a text from its first words to its newline
pub printed_in_turn : (p1 p2 p3 p4 text : List ℕ) (ts ms : List Word) → p1 ≡ codes "obc" → p2 ≡ with_word p1 (fixed (codes "1")) → p3 ≡ with_words p2 ts → p4 ≡ with_words p3 ms → text ≡ p4 ++ 10 ∷ []
    → text ≡ printed (fixed (codes "obc") ∷ fixed (codes "1") ∷ ts ++ ms)
unfolding with_words
printed_in_turn p1 p2 p3 p4 text ts ms a b c d e =
    e ∙ ap (λ p. p ++ 10 ∷ [])
    (d ∙ ap (λ p. with_words p ms) (c ∙ ap (λ p. with_words p ts) (b ∙ ap (λ p. with_word p (fixed (codes "1"))) a))
    ∙ sym (words_next (codes "obc") (fixed (codes "1")) (ts ++ ms) ∙ words_more (with_word (codes "obc") (fixed (codes "1"))) ts ms))

-- what was answered, if it was, are the items of an equal list
pub answered_as : {T E : Type 0} (items : T → List ℕ) (x y : List ℕ) (r : Result T E) → IfOk r (λ t. items t ≡ x) → x ≡ y → IfOk r (λ t. items t ≡ y)
answered_as items x y (Ok t) h e = h ∙ e
answered_as items x y (Err t) h e = tt

pub ruleset steps = (words_none, steps-next, drop-end, size-at_cmd)

pub ruleset arms = (arms-next, arms-end, size-at_arm)

pub ruleset machines = (words_none, machines-next, drop-end)
