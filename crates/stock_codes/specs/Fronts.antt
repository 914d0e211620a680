-- What the calls of a stock front mean: those of its code.
use Rattle.std.specs.Prelude.{ℕ, Bool, List}
use Rattle.interaction.specs.Interaction.{Interaction}
use Rattle.plugin_decl.specs.declared.declaration.Port.{Port}
use Rattle.plug_api.specs.Inputs.{Inputs, Outputs}
use Rattle.plug_api.specs.Meaning.{FrontMeaning}
use Rattle.stock_sound.specs.Constant.{constant}
use Rattle.stock_sound.specs.Amplifier.{amplifier}
use Rattle.stock_sound.specs.Mixer.{mixer}
use Rattle.stock_sound.specs.Echo.{echo}
use Rattle.stock_jobs.specs.Fetch.{fetch_front}
use Rattle.stock_jobs.specs.Burst.{burst_front}
use Rattle.stock_state.specs.Keep.{keep_front}
use Rattle.stock_tank.specs.Tank.{tank_front}
use Rattle.stock_codes.specs.Wrapped.{wrapped}
use Rattle.stock_codes.specs.declared.front.StockFront.{StockFront}
use Rattle.stock_codes.specs.declared.front.StockFront.TheVariants.{Constant, Amplifier, Mixer, Echo, Fetch, Burst, Keep, Tank}

abbrev pub front_fits : StockFront → List Port → Bool
front_fits (Constant front) ports = constant.fits front ports
front_fits (Amplifier front) ports = amplifier.fits front ports
front_fits (Mixer front) ports = mixer.fits front ports
front_fits (Echo front) ports = echo.fits front ports
front_fits (Fetch front) ports = fetch_front.fits front ports
front_fits (Burst front) ports = burst_front.fits front ports
front_fits (Keep front) ports = keep_front.fits front ports
front_fits (Tank front) ports = tank_front.fits front ports

abbrev pub front_activated : StockFront → StockFront
front_activated (Constant front) = Constant (constant.activate front)
front_activated (Amplifier front) = Amplifier (amplifier.activate front)
front_activated (Mixer front) = Mixer (mixer.activate front)
front_activated (Echo front) = Echo (echo.activate front)
front_activated (Fetch front) = Fetch (fetch_front.activate front)
front_activated (Burst front) = Burst (burst_front.activate front)
front_activated (Keep front) = Keep (keep_front.activate front)
front_activated (Tank front) = Tank (tank_front.activate front)

abbrev pub front_deactivated : StockFront → StockFront
front_deactivated (Constant front) = Constant (constant.deactivate front)
front_deactivated (Amplifier front) = Amplifier (amplifier.deactivate front)
front_deactivated (Mixer front) = Mixer (mixer.deactivate front)
front_deactivated (Echo front) = Echo (echo.deactivate front)
front_deactivated (Fetch front) = Fetch (fetch_front.deactivate front)
front_deactivated (Burst front) = Burst (burst_front.deactivate front)
front_deactivated (Keep front) = Keep (keep_front.deactivate front)
front_deactivated (Tank front) = Tank (tank_front.deactivate front)

abbrev pub front_run : StockFront → Inputs → Interaction (StockFront × Outputs)
front_run (Constant front) given = wrapped Constant (constant.run front given)
front_run (Amplifier front) given = wrapped Amplifier (amplifier.run front given)
front_run (Mixer front) given = wrapped Mixer (mixer.run front given)
front_run (Echo front) given = wrapped Echo (echo.run front given)
front_run (Fetch front) given = wrapped Fetch (fetch_front.run front given)
front_run (Burst front) given = wrapped Burst (burst_front.run front given)
front_run (Keep front) given = wrapped Keep (keep_front.run front given)
front_run (Tank front) given = wrapped Tank (tank_front.run front given)

abbrev pub front_response : StockFront → List ℕ → StockFront
front_response (Constant front) body = Constant (constant.response front body)
front_response (Amplifier front) body = Amplifier (amplifier.response front body)
front_response (Mixer front) body = Mixer (mixer.response front body)
front_response (Echo front) body = Echo (echo.response front body)
front_response (Fetch front) body = Fetch (fetch_front.response front body)
front_response (Burst front) body = Burst (burst_front.response front body)
front_response (Keep front) body = Keep (keep_front.response front body)
front_response (Tank front) body = Tank (tank_front.response front body)

abbrev pub front_run_ended : StockFront → StockFront
front_run_ended (Constant front) = Constant (constant.end_run front)
front_run_ended (Amplifier front) = Amplifier (amplifier.end_run front)
front_run_ended (Mixer front) = Mixer (mixer.end_run front)
front_run_ended (Echo front) = Echo (echo.end_run front)
front_run_ended (Fetch front) = Fetch (fetch_front.end_run front)
front_run_ended (Burst front) = Burst (burst_front.end_run front)
front_run_ended (Keep front) = Keep (keep_front.end_run front)
front_run_ended (Tank front) = Tank (tank_front.end_run front)

abbrev pub stock_front : FrontMeaning StockFront
stock_front = record {
  fits = front_fits;
  activate = front_activated;
  deactivate = front_deactivated;
  run = front_run;
  response = front_response;
  end_run = front_run_ended;
}
