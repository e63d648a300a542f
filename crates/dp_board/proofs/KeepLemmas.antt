-- A table of strokes keeps what later acts need.
use Rattle.std.proofs.Common.{◌≡◌, ◌≢◌, ℕ, ◌+◌, ◌-◌, ◌<◌, ◌&&◌, Bool, true, false}
use Rattle.std.proofs.Common.{List, [], ◌∷◌, ◌++◌, length, set, Option, Some, None, refl}
use Rattle.std.proofs.Common.{ap, sym, ◌∙◌, arith, subst, inl, inr, append_assoc, length-append}
use Rattle.std.proofs.Common.{eq-eqb, suc}
use Rattle.std.specs.Prelude.{if◌then◌else◌, not, nat_lt}
use Rattle.std.specs.List.{slice_get}
use Rattle.std.proofs.lemmas.Bool.{ne_eqb, cases_eq}
use Rattle.std.proofs.lemmas.List.{same_from_push, get_or-set_same, get_or-set_other, length-set}
use Rattle.dp_board.specs.declared.act.Act.{Act}
use Rattle.dp_board.specs.declared.act.Act.TheVariants.{Point, Undo, Redo, Draw, Depth, Other}
use Rattle.dp_board.specs.declared.act.UserAct.{UserAct}
use Rattle.dp_board.specs.Strokes.{Window, Groups, Strokes, no_groups, is_eligible}
use Rattle.dp_board.specs.Strokes.{last_of, without_last, without, where_eligible, undoable}
use Rattle.dp_board.specs.Strokes.{redoable, undo, redo, concerned, window_after, groups_after}
use Rattle.dp_board.specs.Strokes.{after_act, strokes, moved}
use Rattle.dp_board.specs.Users.{groups_of}
use Rattle.dp_board.specs.Joins.{join_in, join_of, joins}
use Rattle.dp_board.specs.Table.{Table, strokes_of}
use Rattle.dp_board.specs.Table.{begins_settled, without_settled, unsettled, kept_after}
use Rattle.dp_board.specs.Table.{next_strokes}
use Rattle.dp_board.specs.Table.{table_with, BeginsOutOfReach, IsGuarded, KeepsGroups}
use Rattle.dp_board.specs.Table.{IsTableAfter, TablesBegin, TablesGoOn, TablesMove, TablesJoin}
use Rattle.dp_board.proofs.TimesLemmas.{times, one_same, one_other, times-append, times-none}
use Rattle.dp_board.proofs.TimesLemmas.{is_among-none, without_last-push}
use Rattle.dp_board.proofs.StepLemmas.{total, IsSound-strokes, where_eligible-is}
use Rattle.dp_board.proofs.StepLemmas.{times-window_after, total-undo, total-redo}
use Rattle.dp_board.proofs.MoveLemmas.{joins-append}
use Rattle.dp_board.proofs.WindowLemmas.{position-is}
use Rattle.dp_board.proofs.TableLemmas.{strokes-push}

-- the place past some is in the rest
slice_get-past : {X : Type 0} → (xs ys : List X) (i : ℕ)
    → slice_get (xs ++ ys) (length xs + i) ≡ slice_get ys i
slice_get-past [] ys i = ap (slice_get ys) (omega arith)
slice_get-past (x ∷ xs) ys i =
    let e : length (x ∷ xs) + i ≡ suc (length xs + i) = omega arith in
    ap (slice_get (x ∷ (xs ++ ys))) e ∙ slice_get-past xs ys i

-- the last of all is the last of those that are kept
last_of-kept : (w : Window) (left_out kept : List ℕ) → IsGuarded w left_out kept
    → last_of (left_out ++ kept) ≡ last_of kept
last_of-kept w [] kept guarded = refl
last_of-kept w (x ∷ left_out) [] guarded = absurd guarded
last_of-kept w (x ∷ left_out) (y ∷ kept) guarded =
    let all : List ℕ = (x ∷ left_out) ++ (y ∷ kept) in
    let e : length all - 1 ≡ length (x ∷ left_out) + (length (y ∷ kept) - 1) =
    omega (arith, length-append (x ∷ left_out) (y ∷ kept)) in
    ap (slice_get all) e ∙ slice_get-past (x ∷ left_out) (y ∷ kept) (length (y ∷ kept) - 1)

last_of-keeps : (w : Window) (all kept : Groups) → KeepsGroups w all kept
    → last_of all.done ≡ last_of kept.done
last_of-keeps w all kept keeps =
    ap last_of keeps.done ∙ last_of-kept w keeps.left_out kept.done keeps.guarded

-- strokes with other groups
abbrev strokes_with : ℕ → Window → Groups → Strokes
strokes_with position w g = record { position = position; window = w; groups = g }

-- the group that an act moves is the same
moved-keeps : {Op : Type 0} → (position : ℕ) (w : Window) (all kept : Groups) (act : Act Op)
    → KeepsGroups w all kept
    → moved (strokes_with position w kept) act ≡ moved (strokes_with position w all) act
moved-keeps position w all kept (Undo who) keeps =
    ap (where_eligible w) (sym (last_of-keeps w all kept keeps))
moved-keeps position w all kept (Redo who) keeps =
    ap (λ undone. redoable w (record { done = []; undone = undone })) (sym keeps.undone)
moved-keeps position w all kept Point keeps = refl
moved-keeps position w all kept (Draw op) keeps = refl
moved-keeps position w all kept (Depth d) keeps = refl
moved-keeps position w all kept Other keeps = refl

-- the first that is kept stays out of reach
begins-later : {Op : Type 0} → (position : ℕ) (act : Act Op) (w : Window) (done : List ℕ)
    → times position done ≡ 0 → BeginsOutOfReach w done
    → BeginsOutOfReach (window_after position act w) done
begins-later position act w [] new out = out
begins-later position act w (group ∷ done) new out = elim (cases_eq group position) [
  | inl same ↦ absurd (omega (arith, one_same group position same))
  | inr differ ↦ is_among-none (window_after position act w).points group
      (omega (
        arith,
        times-window_after position act w group,
        times-none w.points group out,
        one_other position group (λ same. differ (sym same)),
      ))
]

-- more at the end leave the first
begins-append : (w : Window) (done more : List ℕ) → BeginsOutOfReach w done
    → BeginsOutOfReach w (done ++ more)
begins-append w [] more out = absurd out
begins-append w (group ∷ done) more out = out

-- without one that is in reach the first is left
begins-without_last : (w : Window) (before done : List ℕ) (group : ℕ) → before ++ group ∷ [] ≡ done
    → is_eligible w group ≡ true → BeginsOutOfReach w done → BeginsOutOfReach w before
begins-without_last w before [] group is reached out = absurd out
begins-without_last w [] (first ∷ done) group is reached out =
    let same : group ≡ first = cc in
    let e : is_eligible w group ≡ is_eligible w first = ap (is_eligible w) same in
    let wrong : true ≡ false = sym reached ∙ e ∙ out in cc
begins-without_last w (x ∷ before) (first ∷ done) group is reached out =
    let same : x ≡ first = cc in
    ap (is_eligible w) same ∙ out

-- what holds of the first that is kept, if some are left out
guarded-by : (v w : Window) (left_out kept more : List ℕ)
    → (BeginsOutOfReach v kept → BeginsOutOfReach w more) → IsGuarded v left_out kept
    → IsGuarded w left_out more
guarded-by v w [] kept more step guarded = tt
guarded-by v w (x ∷ left_out) kept more step guarded = step guarded

-- the groups that are kept, in a later window
KeepsGroups-later : {Op : Type 0} → (position : ℕ) (act : Act Op) (w : Window) (all kept : Groups)
    → total position all ≡ 0 → KeepsGroups w all kept
    → KeepsGroups (window_after position act w) all kept
KeepsGroups-later position act w all kept new keeps = record {
  left_out = keeps.left_out;
  done = keeps.done;
  undone = keeps.undone;
  guarded = guarded-by w (window_after position act w) keeps.left_out kept.done kept.done
      (begins-later position act w kept.done (omega (
        arith,
        new,
        ap (times position) keeps.done,
        times-append position keeps.left_out kept.done,
      ))) keeps.guarded;
}

-- one more done group at the end
KeepsGroups-push : (w : Window) (all kept : Groups) (group : ℕ) (undone : List ℕ)
    → KeepsGroups w all kept
    → KeepsGroups w (record { done = all.done ++ group ∷ []; undone = undone })
    (record { done = kept.done ++ group ∷ []; undone = undone })
KeepsGroups-push w all kept group undone keeps = record {
  left_out = keeps.left_out;
  done = ap (λ done. done ++ group ∷ []) keeps.done
      ∙ append_assoc keeps.left_out kept.done (group ∷ []);
  undone = refl;
  guarded = guarded-by w w keeps.left_out kept.done (kept.done ++ group ∷ [])
      (begins-append w kept.done (group ∷ [])) keeps.guarded;
}

-- other undone groups
KeepsGroups-undone : (w : Window) (all kept : Groups) (undone : List ℕ) → KeepsGroups w all kept
    → KeepsGroups w (record all { undone = undone }) (record kept { undone = undone })
KeepsGroups-undone w all kept undone keeps = record {
  left_out = keeps.left_out;
  done = keeps.done;
  undone = refl;
  guarded = keeps.guarded;
}

-- an undo
KeepsGroups-undo : (w : Window) (all kept : Groups) (o : Option ℕ) → undoable w kept ≡ o
    → KeepsGroups w all kept → KeepsGroups w (undo o all) (undo o kept)
KeepsGroups-undo w all kept None is keeps = keeps
KeepsGroups-undo w all kept (Some group) is keeps =
    let e = where_eligible-is w (last_of kept.done) group is in
    let mine = without_last-push kept.done group e.0 in
    let whole = without_last-push all.done group (last_of-keeps w all kept keeps ∙ e.0) in
    let same : without_last all.done ++ group ∷ []
    ≡ (keeps.left_out ++ without_last kept.done) ++ group ∷ [] =
    whole ∙ keeps.done ∙ ap (λ done. keeps.left_out ++ done) (sym mine)
    ∙ sym (append_assoc keeps.left_out (without_last kept.done) (group ∷ [])) in
    record {
      left_out = keeps.left_out;
      done = (same_from_push (without_last all.done) (keeps.left_out ++ without_last kept.done)
          group group same).0;
      undone = ap (λ undone. group ∷ undone) keeps.undone;
      guarded = guarded-by w w keeps.left_out kept.done (without_last kept.done)
          (begins-without_last w (without_last kept.done) kept.done group mine e.1) keeps.guarded;
    }

-- a redo
KeepsGroups-redo : (w : Window) (all kept : Groups) (o : Option ℕ)
    → KeepsGroups w all kept → KeepsGroups w (redo o all) (redo o kept)
KeepsGroups-redo w all kept None keeps = keeps
KeepsGroups-redo w all kept (Some group) keeps =
    subst (λ undone. KeepsGroups w (redo (Some group) all)
    (record { done = kept.done ++ group ∷ []; undone = without group undone })) keeps.undone
    (KeepsGroups-push w all kept group (without group all.undone) keeps)

-- the groups after an act, as the window was
KeepsGroups-act : {Op : Type 0} → (position : ℕ) (w : Window) (all kept : Groups) (act : Act Op)
    → KeepsGroups w all kept
    → KeepsGroups w (groups_after (strokes_with position w all) act)
    (groups_after (strokes_with position w kept) act)
KeepsGroups-act position w all kept Point keeps =
    KeepsGroups-push w all kept position [] keeps
KeepsGroups-act position w all kept (Undo who) keeps =
    subst (λ o. KeepsGroups w (undo o all) (undo (undoable w kept) kept))
    (ap (where_eligible w) (sym (last_of-keeps w all kept keeps)))
    (KeepsGroups-undo w all kept (undoable w kept) refl keeps)
KeepsGroups-act position w all kept (Redo who) keeps =
    subst (λ undone. KeepsGroups w (redo (redoable w all) all)
    (redo (redoable w (record { done = []; undone = undone })) kept)) keeps.undone
    (KeepsGroups-redo w all kept (redoable w all) keeps)
KeepsGroups-act position w all kept (Draw op) keeps = KeepsGroups-undone w all kept [] keeps
KeepsGroups-act position w all kept (Depth d) keeps = keeps
KeepsGroups-act position w all kept Other keeps = keeps

-- done groups without settled ones, after some that were left out
record Splits (w : Window) (all kept : List ℕ) : Type 0 where
  pub left_out : List ℕ
  pub done : all ≡ left_out ++ kept
  pub guarded : IsGuarded w left_out kept

and_last : (a c : Bool) → (a && c) ≡ true → c ≡ true
and_last true c is = is
and_last false c is = cc

not_true : (b : Bool) → not b ≡ true → b ≡ false
not_true true is = cc
not_true false is = refl

-- after a settled first group the next is out of reach
begins-next : (w : Window) (group : ℕ) (kept : List ℕ) → begins_settled w (group ∷ kept) ≡ true
    → BeginsOutOfReach w kept
begins-next w group [] is = let wrong : false ≡ true = is in cc
begins-next w group (next ∷ kept) is = not_true (is_eligible w next)
    (and_last (nat_lt 1 (length (group ∷ next ∷ kept)) && not (is_eligible w group))
    (not (is_eligible w next)) is)

guarded-from : (w : Window) (left_out kept : List ℕ) → BeginsOutOfReach w kept
    → IsGuarded w left_out kept
guarded-from w [] kept out = tt
guarded-from w (x ∷ left_out) kept out = out

Splits-by_test : (w : Window) (all kept : List ℕ) (group : ℕ) (b : Bool)
    → begins_settled w (group ∷ kept) ≡ b → Splits w all (group ∷ kept)
    → (Splits w all kept → Splits w all (without_settled w kept))
    → Splits w all (if b then without_settled w kept else group ∷ kept)
Splits-by_test w all kept group true is splits rest = rest (record {
  left_out = splits.left_out ++ group ∷ [];
  done = splits.done ∙ sym (append_assoc splits.left_out (group ∷ []) kept);
  guarded = guarded-from w (splits.left_out ++ group ∷ []) kept (begins-next w group kept is);
})
Splits-by_test w all kept group false is splits rest = splits

Splits-settled : (w : Window) (all kept : List ℕ) → Splits w all kept
    → Splits w all (without_settled w kept)
Splits-settled w all [] splits = splits
Splits-settled w all (group ∷ kept) splits =
    Splits-by_test w all kept group (begins_settled w (group ∷ kept)) refl splits
    (Splits-settled w all kept)

-- without settled ones enough is kept, too
KeepsGroups-unsettled : (w : Window) (all kept : Groups) → KeepsGroups w all kept
    → KeepsGroups w all (unsettled w kept)
KeepsGroups-unsettled w all kept keeps =
    let splits = Splits-settled w all.done kept.done (record {
      left_out = keeps.left_out;
      done = keeps.done;
      guarded = keeps.guarded;
    }) in
    record {
      left_out = splits.left_out;
      done = splits.done;
      undone = keeps.undone;
      guarded = splits.guarded;
    }

-- they are kept whatever the act
KeepsGroups-kept_after : {Op : Type 0} → (w : Window) (act : Act Op) (all kept : Groups)
    → KeepsGroups w all kept → KeepsGroups w all (kept_after w act kept)
KeepsGroups-kept_after w Point all kept keeps = KeepsGroups-unsettled w all kept keeps
KeepsGroups-kept_after w (Undo who) all kept keeps = keeps
KeepsGroups-kept_after w (Redo who) all kept keeps = keeps
KeepsGroups-kept_after w (Draw op) all kept keeps = keeps
KeepsGroups-kept_after w (Depth d) all kept keeps = keeps
KeepsGroups-kept_after w Other all kept keeps = keeps

-- the strokes of a user after a history, by the table
strokes-by_table : {Op : Type 0} → (depth user : ℕ) (acts : List (UserAct Op)) (table : Table)
    → IsTableAfter depth acts table → strokes depth user acts
    ≡ strokes_with table.position table.window (strokes depth user acts).groups
strokes-by_table depth user acts table is =
    ap (λ p. record (strokes depth user acts) { position = p })
    (position-is depth user acts ∙ sym is.position)
    ∙ ap (λ w. strokes_with table.position w (strokes depth user acts).groups) (is.window user)

-- a table after a history says which group an act moves
pub tables_move : (Op : Type 0) → TablesMove Op
tables_move Op depth acts a table small is =
    let user = concerned a in
    moved-keeps table.position table.window (strokes depth user acts).groups
    (groups_of table.users user) a.act (is.groups user small)
    ∙ ap (λ s. moved s a.act) (sym (strokes-by_table depth user acts table is))

-- what an act joins is by the last done group
join_of-last : {Op : Type 0} → (user : ℕ) (act : Act Op) (g h : Groups)
    → last_of g.done ≡ last_of h.done → join_of user g act ≡ join_of user h act
join_of-last user (Draw op) g h same = ap (join_in user) same
join_of-last user Point g h same = refl
join_of-last user (Undo who) g h same = refl
join_of-last user (Redo who) g h same = refl
join_of-last user (Depth d) g h same = refl
join_of-last user Other g h same = refl

-- a table after a history says what an act joins
pub tables_join : (Op : Type 0) → TablesJoin Op
tables_join Op depth acts a table small is =
    let all = (strokes depth a.user acts).groups in
    joins-append depth acts (a ∷ [])
    ∙ ap (λ join. joins depth acts ++ join ∷ []) (join_of-last a.user a.act all
    (groups_of table.users a.user) (last_of-keeps table.window all (groups_of table.users a.user)
    (is.groups a.user small)))

-- the strokes before the first act are those of the history without acts
pub tables_begin : (Op : Type 0) → TablesBegin Op
tables_begin Op depth table count none = record {
  count = count;
  position = ap (λ s. s.position) (none 0);
  window = λ user. sym (ap (λ s. s.window) (none user));
  groups = λ user small. record {
    left_out = [];
    done = sym (ap (λ s. s.groups.done) (none user));
    undone = sym (ap (λ s. s.groups.undone) (none user));
    guarded = tt;
  };
}

-- the groups after an act, as the window is then
KeepsGroups-step : {Op : Type 0} → (position : ℕ) (w : Window) (all kept : Groups) (act : Act Op)
    → total position all ≡ 0 → KeepsGroups w all kept
    → KeepsGroups (window_after position act w)
    (groups_after (strokes_with position w all) act)
    (groups_after (strokes_with position w kept) act)
KeepsGroups-step {Op} position w all kept Point new keeps =
    KeepsGroups-push (window_after {Op = Op} position Point w) all kept position []
    (KeepsGroups-later {Op = Op} position Point w all kept new keeps)
KeepsGroups-step {Op} position w all kept (Undo who) new keeps =
    KeepsGroups-later {Op = Op} position (Undo who) w
    (groups_after {Op = Op} (strokes_with position w all) (Undo who))
    (groups_after {Op = Op} (strokes_with position w kept) (Undo who))
    (total-undo w all (undoable w all) position refl ∙ new)
    (KeepsGroups-act {Op = Op} position w all kept (Undo who) keeps)
KeepsGroups-step {Op} position w all kept (Redo who) new keeps =
    KeepsGroups-later {Op = Op} position (Redo who) w
    (groups_after {Op = Op} (strokes_with position w all) (Redo who))
    (groups_after {Op = Op} (strokes_with position w kept) (Redo who))
    (total-redo w all (redoable w all) position refl ∙ new)
    (KeepsGroups-act {Op = Op} position w all kept (Redo who) keeps)
KeepsGroups-step position w all kept (Draw op) new keeps =
    KeepsGroups-later position (Draw op) w
    (groups_after (strokes_with position w all) (Draw op))
    (groups_after (strokes_with position w kept) (Draw op))
    (omega arith) (KeepsGroups-act position w all kept (Draw op) keeps)
KeepsGroups-step {Op} position w all kept (Depth d) new keeps =
    KeepsGroups-later {Op = Op} position (Depth d) w all kept new keeps
KeepsGroups-step {Op} position w all kept Other new keeps =
    KeepsGroups-later {Op = Op} position Other w all kept new keeps

-- the strokes of a user after an act, by the table
strokes-next : {Op : Type 0} → (depth user : ℕ) (acts : List (UserAct Op)) (a : UserAct Op)
    (table : Table) → IsTableAfter depth acts table → strokes depth user (acts ++ a ∷ [])
    ≡ after_act user (strokes_with table.position table.window (strokes depth user acts).groups) a
strokes-next depth user acts a table is =
    strokes-push depth user acts a
    ∙ ap (λ s. after_act user s a) (strokes-by_table depth user acts table is)

-- the groups of the user whom an act concerns
groups-concerned : {Op : Type 0} → (depth user : ℕ) (acts : List (UserAct Op)) (a : UserAct Op)
    (table : Table) → user < 256 → concerned a ≡ user → IsTableAfter depth acts table
    → KeepsGroups (window_after table.position a.act table.window)
    (strokes depth user (acts ++ a ∷ [])).groups
    (groups_of (table_with (next_strokes table a) table).users user)
groups-concerned depth user acts a table small same is =
    let p = table.position in
    let w = table.window in
    let later = window_after p a.act w in
    let all = (strokes depth user acts).groups in
    let kept = groups_of table.users user in
    let new : total p all ≡ 0 = (IsSound-strokes depth user acts).below p
    (omega (arith, is.position, position-is depth user acts)) in
    let step = KeepsGroups-kept_after later a.act (groups_after (strokes_with p w all) a.act)
    (groups_after (strokes_with p w kept) a.act)
    (KeepsGroups-step p w all kept a.act new (is.groups user small)) in
    let full : (strokes depth user (acts ++ a ∷ [])).groups
    ≡ groups_after (strokes_with p w all) a.act =
    ap (λ s. s.groups) (strokes-next depth user acts a table is)
    ∙ ap (λ b. if b then groups_after (strokes_with p w all) a.act else all)
    (eq-eqb (concerned a) user same) in
    let mine : groups_of (table_with (next_strokes table a) table).users user
    ≡ kept_after later a.act (groups_after (strokes_with p w kept) a.act) =
    ap (λ u. groups_of (set table.users u (kept_after later a.act
    (groups_after (strokes_of table u) a.act))) user) same
    ∙ get_or-set_same table.users user (kept_after later a.act
    (groups_after (strokes_with p w kept) a.act)) no_groups
    (omega (arith, is.count, small)) in
    subst (λ g. KeepsGroups later g (groups_of (table_with (next_strokes table a) table).users
    user)) (sym full) (subst (λ g. KeepsGroups later (groups_after (strokes_with p w all) a.act) g)
    (sym mine) step)

-- the groups of another user
groups-others : {Op : Type 0} → (depth user : ℕ) (acts : List (UserAct Op)) (a : UserAct Op)
    (table : Table) → user < 256 → concerned a ≢ user → IsTableAfter depth acts table
    → KeepsGroups (window_after table.position a.act table.window)
    (strokes depth user (acts ++ a ∷ [])).groups
    (groups_of (table_with (next_strokes table a) table).users user)
groups-others depth user acts a table small differ is =
    let p = table.position in
    let w = table.window in
    let later = window_after p a.act w in
    let all = (strokes depth user acts).groups in
    let kept = groups_of table.users user in
    let new : total p all ≡ 0 = (IsSound-strokes depth user acts).below p
    (omega (arith, is.position, position-is depth user acts)) in
    let step = KeepsGroups-later p a.act w all kept new (is.groups user small) in
    let full : (strokes depth user (acts ++ a ∷ [])).groups ≡ all =
    ap (λ s. s.groups) (strokes-next depth user acts a table is)
    ∙ ap (λ b. if b then groups_after (strokes_with p w all) a.act else all)
    (ne_eqb (concerned a) user differ) in
    let mine : groups_of (table_with (next_strokes table a) table).users user ≡ kept =
    get_or-set_other table.users (concerned a) user (next_strokes table a).groups no_groups
    (λ same. differ (sym same)) in
    subst (λ g. KeepsGroups later g (groups_of (table_with (next_strokes table a) table).users
    user)) (sym full) (subst (λ g. KeepsGroups later all g) (sym mine) step)

-- with what an act makes of them, the strokes after a history are those after the history with the
-- act
pub tables_go_on : (Op : Type 0) → TablesGoOn Op
tables_go_on Op depth acts a table known is = record {
  count = length-set table.users (concerned a) (next_strokes table a).groups ∙ is.count;
  position = omega (arith, is.position, length-append acts (a ∷ []));
  window = λ user. ap (λ s. s.window) (strokes-next depth user acts a table is);
  groups = λ user small. elim (cases_eq (concerned a) user) [
    | inl same ↦ groups-concerned depth user acts a table small same is
    | inr differ ↦ groups-others depth user acts a table small differ is
  ];
}
