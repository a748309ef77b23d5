mod Sent
mod Runs
mod Stillness
