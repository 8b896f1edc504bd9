use Rattle.std.proofs.Common.{◌≡◌, get_or, ◌+◌, ◌-◌, ◌<◌, ◌∷◌, length, MatchResult, rules, arith, subst}
use Rattle.std.proofs.lemmas.Result.{MatchResult-weaker}
use Rattle.sheets.specs.Rows.{row_text, after_text, Spells, Stops}
use Rattle.sheets.proofs.RowReading.{put_front, part_length, row_ok, row_halt, row_step, tail_stop, tail_ok, tail_err}
use Rattle.sheets.proofs.rows.+row_tail.Goals as goal

pub row-returns-in_err-e : goal.row-returns-in_err-e
row-returns-in_err-e t c = let halt = row_halt _ _ _ c.requires c.in_err-e.ensures in search (rules, halt)

pub tail-returns-in-32-false : goal.tail-returns-in-32-false
tail-returns-in-32-false t c =
    let s = c.args.s.now in
    let some : 0 < length c.args.out.now = search rules in
    let space : get_or s 0 0 ≡ 32 = search rules in
    let spaced : MatchResult c.row.result (λ _. Spells after_text s c.row.new.out) (λ e. Stops after_text (length c.args.out.now) s (1 + e.at)) =
    MatchResult-weaker c.row.result c.row.ensures (λ _ h. tail_ok _ _ (omega arith) space (omega (arith, c.row.auto.out)) h) (λ e h. tail_err _ _ _ some (omega arith) space h) in
    search rules

pub tail-returns-in_default : goal.tail-returns-in_default
tail-returns-in_default t c = tail_stop _ _ (search rules) (search rules)

pub tail-returns-in_default-3 : goal.tail-returns-in_default-3
tail-returns-in_default-3 t c = tail_stop _ _ (search rules) (search rules)

pub row-returns : goal.row-returns
row-returns t c =
    let s = c.args.s.now in
    let after = c.in_ok-e.after.now in
    let whole : MatchResult c.tail.result (λ _. Spells row_text s (c.in_ok-e.e ∷ c.tail.new.out)) (λ e. Stops row_text (length c.args.out.now) s (length s - length after + e.at)) =
    MatchResult-weaker c.tail.result c.tail.ensures (λ _ h. row_ok _ _ _ _ c.in_ok-e.ensures h) (λ e h. row_step _ _ _ _ _ c.requires c.in_ok-e.ensures (subst (λ n. Stops after_text n after e.at) (part_length c.args.out.now c.in_ok-e.e) h)) in
    rw (put_front c.args.out.now c.tail.new.out c.in_ok-e.e c.requires) (search rules)
