-- What the text of a machine of form says: its words are plain, its steps are those of the machine, and they keep the rules.
use Rattle.std.proofs.Common.{◌≡◌, ℕ, suc, Bool, true, false, ◌||◌, if◌then◌else◌, List, [], ◌∷◌, ◌++◌, length, map, codes, Option, None, Some, is_some, refl, sym, ap, subst, ◌∙◌, arith}
use Rattle.std.specs.Prelude.{IsSome, option_and_then}
use Rattle.std.specs.Str.{bytes_eq}
use Rattle.hp_base.specs.Kinds.{KindData, Ints, Constructors}
use Rattle.hp_base.specs.declared.ty.Ty.{Ty}
use Rattle.hp_base.specs.declared.ty.Ty.TheVariants as ty
use Rattle.hp_base.specs.declared.ty.Const.{Const}
use Rattle.hp_base.specs.declared.ty.Const.TheVariants as constant
use Rattle.hp_obc.specs.declared.command.Arg.{Arg}
use Rattle.hp_obc.specs.declared.command.Arg.TheVariants as arg
use Rattle.hp_obc.specs.declared.command.ObcOp.{ObcOp}
use Rattle.hp_obc.specs.declared.command.ObcOp.TheVariants.{Copy, Not, Neg, Mux, And, Or, Xor, Imp, Eq, Ne, Lt, Le, Gt, Ge, Add, Sub, Mul, Div, Rem}
use Rattle.hp_obc.specs.declared.machine.Var.{Var}
use Rattle.hp_obc.specs.Commands as tree
use Rattle.hp_obc.specs.Commands.{Cmds, Cmd, Arms}
use Rattle.hp_obc.specs.Form as form
use Rattle.hp_obc.specs.Form.{HaveForm, HasForm, ArmsHaveForm, is_name, is_constructor, is_short, written, scope, kind_in, argument_kind, argument_kinds, name_kinds, with_first, has_name, constructors_of, constructor_kind, constant_kind, arm_count, result_kind}
use Rattle.hp_obc.specs.Machines.{ObcType, Machine}
use Rattle.hp_obc.specs.Values.{kind_of, enum_from}
use Rattle.hp_obctext.specs.Files as file
use Rattle.hp_obctext.specs.Files.{Steps, Step, Branches, const_word, arg_word, op_words, step_words, steps_words, branches_words}
use Rattle.hp_obctext.specs.Labels.{labels_of, labels_in, said, said_by, said_in}
use Rattle.hp_obctext.specs.Machines.{command, commands, arms}
use Rattle.hp_obctext.specs.Rules.{AllTrue, Types, Context, same_const, in_branches, in_steps, in_step}
use Rattle.hp_obctext.specs.Shapes.{Each, IsLabel, HasName, InstHasName, AreStepTexts, IsStepText, AreBranchTexts}
use Rattle.hp_obctext.specs.Words.{Word, leading, fixed, small}
use Rattle.hp_obctext.proofs.FormSteps.{Sees}
use Rattle.hp_obctext.proofs.FormTypes.{Knows}
use Rattle.hp_obctext.proofs.KeptSteps.{firsts_by, set_keeps, call_keeps, reset_keeps, case_choice}
use Rattle.hp_obctext.proofs.KeptTypes.{true_append}
use Rattle.hp_obctext.proofs.PrintedWords.{IsPlain, small_plain, capital_plain, number_plain}
use Rattle.hp_obctext.proofs.Truths.{front_each, back_each, each_append, equal_bytes, same_bytes}

abbrev pub Plain : List Word → Type 0
Plain ws = Each IsPlain ws

-- ---- names that are found

named_by : (types : List ObcType) (d : Bool) (v : Var) (x : List ℕ) (o : Option KindData) → bytes_eq v.name x ≡ d → is_name v.name ≡ true → is_some (if d then kind_of types v.ty else o) ≡ true → (is_some o ≡ true → is_name x ≡ true) → is_name x ≡ true
named_by types true v x o e n h k = ap is_name (sym (equal_bytes v.name x e)) ∙ n
named_by types false v x o e n h k = k h

-- a name of a kind is a name
pub kind_named : (types : List ObcType) (vars : List Var) → Each HasName vars → (x : List ℕ) → IsSome (kind_in types vars x) → is_name x ≡ true
kind_named types [] n x h = absurd cc
kind_named types (v ∷ vars) n x h = named_by types (bytes_eq v.name x) v x (kind_in types vars x) refl n.0 h (kind_named types vars n.1 x)

inst_by : (d : Bool) (p : List ℕ × List ℕ) (i : List ℕ) (o q : Option Machine) → bytes_eq p.0 i ≡ d → is_name p.0 ≡ true → is_some (if d then q else o) ≡ true → (is_some o ≡ true → is_name i ≡ true) → is_name i ≡ true
inst_by true p i o q e n h k = ap is_name (sym (equal_bytes p.0 i e)) ∙ n
inst_by false p i o q e n h k = k h

-- an instance whose machine is known has a name
inst_named : (earlier : List Machine) (insts : List (List ℕ × List ℕ)) → Each InstHasName insts → (i : List ℕ) → IsSome (form.machine_of earlier insts i) → is_name i ≡ true
inst_named earlier [] n i h = absurd cc
inst_named earlier (p ∷ insts) n i h = inst_by (bytes_eq p.0 i) p i (form.machine_of earlier insts i) (form.machine_named earlier p.1) refl n.0 h (inst_named earlier insts n.1 i)

abbrev IsConstructor : List ℕ → Type 0
IsConstructor x = is_constructor x ≡ true

has_by : (d e : Bool) (y x : List ℕ) → bytes_eq y x ≡ d → is_constructor y ≡ true → (d || e) ≡ true → (e ≡ true → is_constructor x ≡ true) → is_constructor x ≡ true
has_by true e y x p c h k = ap is_constructor (sym (equal_bytes y x p)) ∙ c
has_by false e y x p c h k = k h

has_constructor : (xs : List (List ℕ)) (x : List ℕ) → Each IsConstructor xs → has_name xs x ≡ true → is_constructor x ≡ true
has_constructor [] x c h = absurd cc
has_constructor (y ∷ xs) x c h = has_by (bytes_eq y x) (has_name xs x) y x refl c.0 h (has_constructor xs x c.1)

-- a constructor of a kind is a constructor
kind_constructor : (n : ℕ) (types : List ObcType) → Each IsConstructor (constructors_of types) → (x : List ℕ) → is_some (constructor_kind n types x) ≡ true → is_constructor x ≡ true
kind_constructor n [] c x h = absurd cc
kind_constructor n (t ∷ types) c x h = by (has_name t.cons x) refl h (kind_constructor (suc n) types (back_each IsConstructor t.cons (constructors_of types) c) x)
  where
    by : (d : Bool) → has_name t.cons x ≡ d → is_some (if d then Some (Constructors n t.cons) else constructor_kind (suc n) types x) ≡ true → (is_some (constructor_kind (suc n) types x) ≡ true → is_constructor x ≡ true) → is_constructor x ≡ true
    by true e h k = has_constructor t.cons x (front_each IsConstructor t.cons (constructors_of types) c) e
    by false e h k = k h

short_some : (d : Bool) → is_some (if d then Some Ints else None) ≡ true → d ≡ true
short_some true h = refl
short_some false h = absurd cc

-- a constant of a kind is printed as it is read
pub const_plain : (types : List ObcType) → Each IsConstructor (constructors_of types) → (c : Const) → IsSome (constant_kind types c) → IsPlain (const_word c)
const_plain types s (constant.B true) h = ((refl, refl), refl)
const_plain types s (constant.B false) h = ((refl, refl), refl)
const_plain types s (constant.I n) h = number_plain n (short_some (is_short n) h)
const_plain types s (constant.E x) h = capital_plain x (kind_constructor 0 types s x h)

-- ---- the values of arms

-- the value of an arm, as it is printed
abbrev IsArm : Const → Type 0
IsArm c = IsLabel c × IsPlain (const_word c)

arms_all : (xs : List (List ℕ)) → Each IsConstructor xs → Each IsArm (map constant.E xs)
arms_all [] c = tt
arms_all (x ∷ xs) c = ((tt, capital_plain x c.0), arms_all xs c.1)

enum_arms : (n : ℕ) (types : List ObcType) → Each IsConstructor (constructors_of types) → (x : List ℕ) → Each IsArm (labels_of (enum_from n types x))
enum_arms n [] c x = tt
enum_arms n (t ∷ types) c x = by (bytes_eq t.name x) (enum_arms (suc n) types (back_each IsConstructor t.cons (constructors_of types) c) x)
  where
    by : (d : Bool) → Each IsArm (labels_of (enum_from (suc n) types x)) → Each IsArm (labels_of (if d then Some (Constructors n t.cons) else enum_from (suc n) types x))
    by true h = arms_all t.cons (front_each IsConstructor t.cons (constructors_of types) c)
    by false h = h

type_arms : (types : List ObcType) → Each IsConstructor (constructors_of types) → (t : Ty) → Each IsArm (labels_of (kind_of types t))
type_arms types c ty.Bool = ((tt, ((refl, refl), refl)), ((tt, ((refl, refl), refl)), tt))
type_arms types c ty.Int = tt
type_arms types c (ty.Enum x) = enum_arms 0 types c x

name_arms : (types : List ObcType) → Each IsConstructor (constructors_of types) → (vars : List Var) (x : List ℕ) → Each IsArm (labels_of (kind_in types vars x))
name_arms types c [] x = tt
name_arms types c (v ∷ vars) x = by (bytes_eq v.name x) (name_arms types c vars x)
  where
    by : (d : Bool) → Each IsArm (labels_of (kind_in types vars x)) → Each IsArm (labels_of (if d then kind_of types v.ty else kind_in types vars x))
    by true h = type_arms types c v.ty
    by false h = h

same_label : (c : Const) → IsLabel c → same_const c c ≡ true
same_label (constant.B true) l = refl
same_label (constant.B false) l = refl
same_label (constant.I n) l = absurd l
same_label (constant.E x) l = same_bytes x

op_plain : (op : ObcOp) → Plain (op_words op)
op_plain Copy = tt
op_plain Not = (((refl, refl), refl), tt)
op_plain Neg = (((refl, refl), refl), tt)
op_plain Mux = (((refl, refl), refl), tt)
op_plain And = (((refl, refl), refl), tt)
op_plain Or = (((refl, refl), refl), tt)
op_plain Xor = (((refl, refl), refl), tt)
op_plain Imp = (((refl, refl), refl), tt)
op_plain Eq = (((refl, refl), refl), tt)
op_plain Ne = (((refl, refl), refl), tt)
op_plain Lt = (((refl, refl), refl), tt)
op_plain Le = (((refl, refl), refl), tt)
op_plain Gt = (((refl, refl), refl), tt)
op_plain Ge = (((refl, refl), refl), tt)
op_plain Add = (((refl, refl), refl), tt)
op_plain Sub = (((refl, refl), refl), tt)
op_plain Mul = (((refl, refl), refl), tt)
op_plain Div = (((refl, refl), refl), tt)
op_plain Rem = (((refl, refl), refl), tt)

-- ---- steps

module _ (types : List ObcType) (ts : Types) (knows : Knows types ts) (cons : Each IsConstructor (constructors_of types))
    (earlier : List Machine) (m : Machine) (c : Context) (sees : Sees types ts earlier m c) (names : Each HasName (scope m)) (writes : Each HasName (written m)) (insts : Each InstHasName m.insts) where
  arg_plain : (a : Arg) → IsSome (argument_kind types (scope m) a) → IsPlain (arg_word a)
  arg_plain (arg.Name x) h = small_plain x (kind_named types (scope m) names x h)
  arg_plain (arg.Const k) h = const_plain types cons k h

  args_plain : (args : List Arg) → is_some (argument_kinds types (scope m) args) ≡ true → Plain (map arg_word args)
  args_plain [] h = tt
  args_plain (a ∷ args) h =
      let f = firsts_by (argument_kind types (scope m) a) (argument_kinds types (scope m) args) h in
      (arg_plain a (ap is_some f.first_is), args_plain args (ap is_some f.others_are))

  outs_plain : (outs : List (List ℕ)) → is_some (name_kinds types (written m) outs) ≡ true → Plain (map small outs)
  outs_plain [] h = tt
  outs_plain (x ∷ xs) h =
      let f = firsts_by (kind_in types (written m) x) (name_kinds types (written m) xs) h in
      (small_plain x (kind_named types (written m) writes x (ap is_some f.first_is)), outs_plain xs (ap is_some f.others_are))

  -- the steps of a text are good: as plain words, of the shape of steps, with the rules kept, and those of the machine
  pub record GoodSteps (ss : Steps) (cs : Cmds) : Type 0 where
    pub plain : Plain (steps_words ss)
    pub shape : AreStepTexts ss
    pub kept : AllTrue (in_steps c ss)
    pub same : commands ss ≡ cs

  record GoodStep (s : Step) (k : Cmd) : Type 0 where
    plain : Plain (step_words s)
    shape : IsStepText s
    kept : AllTrue (in_step c s)
    same : command s ≡ k

  record GoodBranches (ls : List Const) (bs : Branches) (as_ : Arms) : Type 0 where
    plain : Plain (branches_words bs)
    shape : AreBranchTexts bs
    kept : AllTrue (in_branches c ls bs)
    same : arms bs ≡ as_

  some_from : {A B : Type 0} (f : A → Option B) (o : Option A) → is_some (option_and_then f o) ≡ true → is_some o ≡ true
  some_from f None h = absurd cc
  some_from f (Some a) h = refl

  good_set : (x : List ℕ) (op : ObcOp) (args : List Arg) → HasForm types earlier m (tree.set x op args) → GoodStep (file.set x op args) (tree.set x op args)
  good_set x op args h =
      let keeps = set_keeps types ts knows earlier m c sees x op args h in
      let given = some_from (result_kind op) (argument_kinds types (scope m) args) (ap is_some (sym h.1) ∙ h.0) in
      record {
        plain = (((refl, refl), refl), (small_plain x (kind_named types (written m) writes x h.0), each_append IsPlain (op_words op) (map arg_word args) (op_plain op) (args_plain args given)));
        shape = keeps.0;
        kept = keeps.1;
        same = refl;
      }

  close_plain : Plain (fixed (codes ")") ∷ [])
  close_plain = (((refl, refl), refl), tt)

  good_call : (i : List ℕ) (outs : List (List ℕ)) (args : List Arg) → HasForm types earlier m (tree.call i outs args) → GoodStep (file.call i outs args) (tree.call i outs args)
  good_call i outs args h =
      let f = h.2 in
      record {
        plain = (
          ((refl, refl), refl),
          (
            small_plain i (inst_named earlier m.insts insts i (ap is_some h.1)),
            (
              ((refl, refl), refl),
              each_append IsPlain (map small outs ++ (fixed (codes ")") ∷ fixed (codes "(") ∷ map arg_word args)) (fixed (codes ")") ∷ [])
                  (each_append IsPlain (map small outs) (fixed (codes ")") ∷ fixed (codes "(") ∷ map arg_word args) (outs_plain outs f.outputs.0)
                  (((refl, refl), refl), (((refl, refl), refl), args_plain args f.arguments.0))) close_plain,
            ),
          ),
        );
        shape = tt;
        kept = call_keeps types ts knows earlier m c sees i outs args h.0 h.1 f;
        same = refl;
      }

  good_reset : (i : List ℕ) → HasForm types earlier m (tree.restart i) → GoodStep (file.restart i) (tree.restart i)
  good_reset i h =
      record {
        plain = (((refl, refl), refl), (small_plain i (inst_named earlier m.insts insts i h), tt));
        shape = tt;
        kept = (refl, (reset_keeps types ts knows earlier m c sees i h, tt));
        same = refl;
      }

  some_arms : (o : Option KindData) (n : ℕ) → option_and_then form.arms_for o ≡ Some n → is_some o ≡ true
  some_arms None n e = absurd cc
  some_arms (Some k) n e = refl

  good_case : (x : List ℕ) (as_ : Arms) → option_and_then form.arms_for (kind_in types (scope m) x) ≡ Some (arm_count as_) → (bs : Branches) → GoodBranches (labels_of (kind_in types (scope m) x)) bs as_ →
      GoodStep (file.case_of x bs) (tree.case_of x as_)
  good_case x as_ e bs g =
      let choice = case_choice types ts knows earlier m c sees x (arm_count as_) e in
      record {
        plain = (
          ((refl, refl), refl),
          (
            small_plain x (kind_named types (scope m) names x (some_arms (kind_in types (scope m) x) (arm_count as_) e)),
            each_append IsPlain (branches_words bs) (leading (codes "end") ∷ []) g.plain (((refl, refl), refl), tt),
          ),
        );
        shape = g.shape;
        kept = (refl, (choice.chosen, subst (λ ls. AllTrue (in_branches c ls bs)) (sym choice.labels_are) g.kept));
        same = ap (tree.case_of x) g.same;
      }

  good_arm : (l : Const) (ls : List Const) (ss : Steps) (cs : Cmds) (bs : Branches) (as_ : Arms) → IsArm l → GoodSteps ss cs → GoodBranches ls bs as_ →
      GoodBranches (l ∷ ls) (file.more_branches l ss bs) (tree.more_arms cs as_)
  good_arm l ls ss cs bs as_ k g b =
      record {
        plain = (((refl, refl), refl), (k.1, each_append IsPlain (steps_words ss) (branches_words bs) g.plain b.plain));
        shape = (k.0, (g.shape, b.shape));
        kept = (refl, (same_label l k.0, true_append (in_steps c ss) (in_branches c ls bs) g.kept b.kept));
        same = ap (λ z. tree.more_arms z (arms bs)) g.same ∙ ap (tree.more_arms cs) b.same;
      }

  both_steps : (s : Step) (k : Cmd) (ss : Steps) (cs : Cmds) → GoodStep s k → GoodSteps ss cs → GoodSteps (file.and_then s ss) (tree.and_then k cs)
  both_steps s k ss cs g h =
      record {
        plain = each_append IsPlain (step_words s) (steps_words ss) g.plain h.plain;
        shape = (g.shape, h.shape);
        kept = true_append (in_step c s) (in_steps c ss) g.kept h.kept;
        same = ap (λ z. tree.and_then z (commands ss)) g.same ∙ ap (tree.and_then k) h.same;
      }

  no_steps : GoodSteps file.done tree.done
  no_steps = record { plain = tt; shape = tt; kept = tt; same = refl }

  no_branches : GoodBranches [] file.no_branch tree.no_arm
  no_branches = record { plain = tt; shape = tt; kept = (refl, tt); same = refl }

  abbrev says : List ℕ → List Const
  says = labels_in types m

  mutual
    pub good_steps : (cs : Cmds) → HaveForm types earlier m cs → GoodSteps (said says cs) cs
    good_steps tree.done h = no_steps
    good_steps (tree.and_then k cs) h = both_steps (said_by says k) k (said says cs) cs (good_step k h.0) (good_steps cs h.1)

    good_step : (k : Cmd) → HasForm types earlier m k → GoodStep (said_by says k) k
    good_step (tree.set x op args) h = good_set x op args h
    good_step (tree.call i outs args) h = good_call i outs args h
    good_step (tree.restart i) h = good_reset i h
    good_step (tree.case_of x as_) h =
        good_case x as_ h.0 (said_in says (says x) as_)
        (good_branches as_ (says x) (case_choice types ts knows earlier m c sees x (arm_count as_) h.0).count (name_arms types cons (scope m) x) h.1)

    good_branches : (as_ : Arms) (ls : List Const) → length ls ≡ arm_count as_ → Each IsArm ls → ArmsHaveForm types earlier m as_ → GoodBranches ls (said_in says ls as_) as_
    good_branches tree.no_arm [] e k h = no_branches
    good_branches tree.no_arm (l ∷ ls) e k h = absurd (omega (arith, e))
    good_branches (tree.more_arms cs as_) [] e k h = absurd (omega (arith, e))
    good_branches (tree.more_arms cs as_) (l ∷ ls) e k h =
        good_arm l ls (said says cs) cs (said_in says ls as_) as_ k.0 (good_steps cs h.0) (good_branches as_ ls (omega (arith, e)) k.1 h.1)
