-- The command is of the kind of which `clap` tells what it takes, and how it fails.
use Rattle.std.proofs.Common.{◌≡◌, true, refl}
use Rattle.clap.specs.Words.{is_simple, is_simple_and_free}
use Rattle.clap.proofs.OnLiterals.{clap_on_literals}
use Rattle.serve_words.specs.Options.{serve_app}

pub is_free : is_simple_and_free serve_app ≡ true
unfolding serve_app clap_on_literals
is_free = refl

pub is_plain : is_simple serve_app ≡ true
unfolding serve_app clap_on_literals
is_plain = refl
