-- What the calls of a stock back mean: those of its code.
use Rattle.std.specs.Prelude.{ℕ, List}
use Rattle.interaction.specs.Interaction.{Interaction}
use Rattle.state_store.specs.declared.prop.Prop.{Prop}
use Rattle.plug_api.specs.Meaning.{BackMeaning}
use Rattle.stock_sound.specs.Plain.{idle}
use Rattle.stock_jobs.specs.Fetch.{fetch_back}
use Rattle.stock_jobs.specs.Burst.{burst_back}
use Rattle.stock_state.specs.Keep.{keep_back}
use Rattle.stock_tank.specs.Tank.{tank_back}
use Rattle.stock_codes.specs.Wrapped.{wrapped}
use Rattle.stock_codes.specs.declared.back.StockBack.{StockBack}
use Rattle.stock_codes.specs.declared.back.StockBack.TheVariants.{Idle, Fetch, Burst, Keep, Tank}

abbrev pub back_work : StockBack → List ℕ → Interaction (StockBack × ℕ)
back_work (Idle back) body = wrapped Idle (idle.work back body)
back_work (Fetch back) body = wrapped Fetch (fetch_back.work back body)
back_work (Burst back) body = wrapped Burst (burst_back.work back body)
back_work (Keep back) body = wrapped Keep (keep_back.work back body)
back_work (Tank back) body = wrapped Tank (tank_back.work back body)

abbrev pub back_saved : StockBack → ℕ → ℕ × List (ℕ × Prop)
back_saved (Idle back) mapped = idle.save back mapped
back_saved (Fetch back) mapped = fetch_back.save back mapped
back_saved (Burst back) mapped = burst_back.save back mapped
back_saved (Keep back) mapped = keep_back.save back mapped
back_saved (Tank back) mapped = tank_back.save back mapped

abbrev pub back_restored : StockBack → List (ℕ × Prop) → Interaction (StockBack × ℕ)
back_restored (Idle back) props = wrapped Idle (idle.restore_safe back props)
back_restored (Fetch back) props = wrapped Fetch (fetch_back.restore_safe back props)
back_restored (Burst back) props = wrapped Burst (burst_back.restore_safe back props)
back_restored (Keep back) props = wrapped Keep (keep_back.restore_safe back props)
back_restored (Tank back) props = wrapped Tank (tank_back.restore_safe back props)

abbrev pub stock_back : BackMeaning StockBack
stock_back = record { work = back_work; save = back_saved; restore_safe = back_restored }
