-- The plain data of command-line arguments.
use Rattle.std.specs.Prelude.{string_bytes}
use Rattle.command_line.specs.Words as plain
use Rattle.command_line.specs.Live as live
use Rattle.command_line.specs.declared.words.CommandLine.{CommandLine}
use Rattle.command_line.specs.declared.live.LiveWords.{LiveWords}

abbrev pub words_view : CommandLine → plain.Words
words_view line = record { dir = string_bytes line.dir; generate = line.generate; sessions = line.sessions }

abbrev pub live_view : LiveWords → live.LiveWords
live_view words = record { dir = string_bytes words.dir; reads = words.reads }
