mod Divisors
